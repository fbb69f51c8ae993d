-- What every call needs: its answer, the search for a bad place, the permitted lengths, lists by their places.
pub mod Choice
pub mod Search
pub mod Lengths
pub mod Cases
pub mod Lists
