-- What is written is read back, what is read writes the same bytes, and 80 is never followed by 00 inside a number.
use Prim.Native.Nat.{ℕ, zero, suc, ◌+◌, ◌-◌, ◌*◌, ◌/◌, ◌%◌, ◌^◌, ◌<◌, ◌≤◌}
use Rattle.std.specs.Prelude.{◌≡◌, refl, Bool, true, false, cond, List, [], ◌∷◌, ◌++◌, drop, take, ltb, eqb, Ok}
use Rattle.std.proofs.Common.{sym, ap, ◌∙◌, div-add-mod', add-one, length-drop, get_or-drop, get_or-take, drop-drop, length-take-le}
use Rattle.std.proofs.Math.Nat.{pow-succ'}
use native.Mathlib.Omega.{arith}
use Rattle.std.proofs.Math.Decide.{dec_lt}
use Rattle.std.proofs.Math.ListN.{length}
use borrow.Author.Tests.{lt-ltb, le-ltb, eqb-true}
use Rattle.answer.specs.Lists.{at}
use Rattle.groups.specs.Bases.{base_one, base_more, base_every, base_less, base_enough}
use Rattle.groups.specs.Groups.{Number, fault, overlong, whole, reading, number_at, groups, bytes_of}

-- ---- the reader, byte by byte

-- What the last byte makes of the number.
module _ (p i byte v : ℕ) where
  pub whole_long : overlong i byte ≡ true → whole p i byte v ≡ fault p
  unfolding whole
  whole_long e = rw e

  module _ (e : overlong i byte ≡ false) where
    pub whole-value : v < 4294967296 → whole p i byte v ≡ Ok (v, suc (p + i))
    unfolding whole
    whole-value h = simp (e, lt-ltb v 4294967296 h)

    pub whole_large : 4294967296 ≤ v → whole p i byte v ≡ fault p
    unfolding whole
    whole_large h = simp (e, le-ltb v 4294967296 h)

module _ (s : List ℕ) (p k i low : ℕ) where
  pub reading_ended : length s ≤ p + i → reading s p (suc k) i low ≡ fault (length s)
  unfolding reading
  reading_ended h = rw (le-ltb (p + i) (length s) h)

  module _ (h : p + i < length s) where
    pub reading_last : at s (p + i) < 128 → reading s p (suc k) i low ≡ whole p i (at s (p + i)) (low + 128 ^ i * at s (p + i))
    unfolding reading
    reading_last l = simp (lt-ltb (p + i) (length s) h, lt-ltb (at s (p + i)) 128 l)

    pub reading_more : 128 ≤ at s (p + i) → reading s p (suc k) i low ≡ reading s p k (suc i) (low + 128 ^ i * (at s (p + i) - 128))
    unfolding reading
    reading_more l = simp (lt-ltb (p + i) (length s) h, le-ltb (at s (p + i)) 128 l)

-- ---- the shortest form

short : (i u : ℕ) → (u ≡ 0 → i ≡ 0) → overlong i u ≡ false
short i u h = by (eqb u 0) refl
  where
    by : (t : Bool) → eqb u 0 ≡ t → cond t (ltb 0 i) false ≡ false
    by true e = le-ltb 0 i (let z = h (eqb-true u 0 e) in omega arith)
    by false e = refl

split : (w u : ℕ) → w * u ≡ w * (u % 128) + 128 * w * (u / 128)
split w u = omega (arith, ap (λ (n : ℕ). w * n) (sym (div-add-mod' u 128)))

groups-one : (k v : ℕ) → v < 128 → groups k v ≡ v ∷ []
groups-one = base_one 128 _ _

groups_more : (k v : ℕ) → 128 ≤ v → groups (suc k) v ≡ (v % 128 + 128) ∷ groups k (v / 128)
groups_more = base_more 128 _ _

less : (k v : ℕ) → v < 128 ^ suc k → v / 128 < 128 ^ k
less k v = base_less 128 k v (omega arith)

-- A number takes at least one byte, and five at most.
pub bytes_few : (v : ℕ) → (1 ≤ length (bytes_of v)) × (length (bytes_of v) ≤ 5)
bytes_few v = base_every 128 _ _ (λ k l. (1 ≤ length l) × (length l ≤ suc k)) (λ k v. (omega arith, omega arith)) (λ k d l r. (omega arith, omega arith)) 4 v

-- The shortest form by its first byte.
pub bytes_one : (v : ℕ) → v < 128 → bytes_of v ≡ v ∷ []
bytes_one v h = groups-one 4 v h

pub bytes_more : (v : ℕ) → 128 ≤ v → v < 34359738368 → bytes_of v ≡ (v % 128 + 128) ∷ bytes_of (v / 128)
bytes_more v h l = groups_more 3 v h ∙ rw (base_enough 128 (λ v. v ∷ []) (λ group rest. (group + 128) ∷ rest) (omega arith) 3 (v / 128) (omega arith))

-- ---- what is written is read back

-- What stands at p, where the bytes from there on are b and then r.
module _ (s : List ℕ) (p b : ℕ) (r : List ℕ) (e : drop p s ≡ b ∷ r) where
  inside : p < length s
  inside = omega (arith, ap length e, length-drop p s)

  here : at s p ≡ b
  here = ap (at s) (omega arith) ∙ sym (get_or-drop p s 0 0) ∙ ap (λ (l : List ℕ). at l 0) e

  behind : drop (suc p) s ≡ r
  behind = rw (← add-one) (sym (drop-drop 1 p s) ∙ ap (drop 1) e)

value_eq : {v w p q : ℕ} → v ≡ w → p ≡ q → ◌≡◌ {A = Number} (Ok (v, p)) (Ok (w, q))
value_eq a b = cc

-- A number that is read is the only one, and so is the place behind it.
pub value_same : {v w p q : ℕ} → ◌≡◌ {A = Number} (Ok (v, p)) (Ok (w, q)) → (v ≡ w) × (p ≡ q)
value_same {v} {w} {p} {q} e = let pair : ◌≡◌ {A = ℕ × ℕ} (v, p) (w, q) = cc in (ap (λ (x : ℕ × ℕ). x.0) pair, ap (λ (x : ℕ × ℕ). x.1) pair)

-- The number's bytes from byte i on are the groups of u: the number is of the value that they make with those before.
abbrev Back : List ℕ → ℕ → ℕ → Type 0
Back s p k =
    (i low u : ℕ) (r : List ℕ) → u < 128 ^ suc k → (u ≡ 0 → i ≡ 0) → low + 128 ^ i * u < 4294967296 → drop (p + i) s ≡ groups k u ++ r →
    reading s p (suc k) i low ≡ Ok (low + 128 ^ i * u, p + i + length (groups k u))

back_one : (s : List ℕ) (p k i low u : ℕ) (r : List ℕ) → u < 128 → (u ≡ 0 → i ≡ 0) → low + 128 ^ i * u < 4294967296 → drop (p + i) s ≡ groups k u ++ r →
    reading s p (suc k) i low ≡ Ok (low + 128 ^ i * u, p + i + length (groups k u))
back_one s p k i low u r l first small e =
    let one = groups-one k u l in
    let e' : drop (p + i) s ≡ u ∷ r = rw one at e in
    let h = here s (p + i) u r e' in
    reading_last s p k i low (inside s (p + i) u r e') (rw h l)
    ∙ rw (h, one) (whole-value p i u (low + 128 ^ i * u) (short i u first) small ∙ value_eq refl (omega arith))

back_more : (s : List ℕ) (p k i low u : ℕ) (r : List ℕ) → Back s p k → 128 ≤ u → u < 128 ^ suc (suc k) → low + 128 ^ i * u < 4294967296 → drop (p + i) s ≡ groups (suc k) u ++ r →
    reading s p (suc (suc k)) i low ≡ Ok (low + 128 ^ i * u, p + i + length (groups (suc k) u))
back_more s p k i low u r ih l h small e =
    let more = groups_more k u l in
    let e' : drop (p + i) s ≡ (u % 128 + 128) ∷ (groups k (u / 128) ++ r) = rw more at e in
    let byte = here s (p + i) _ _ e' in
    let group : u % 128 + 128 - 128 ≡ u % 128 = omega arith in
    let low' : low + 128 ^ i * (u % 128) + 128 ^ suc i * (u / 128) ≡ low + 128 ^ i * u = rw pow-succ' (omega (arith, split (128 ^ i) u)) in
    let next : p + suc i ≡ suc (p + i) = omega arith in
    reading_more s p (suc k) i low (inside s (p + i) _ _ e') (rw byte (omega arith))
    ∙ rw (byte, group)
    (ih (suc i) (low + 128 ^ i * (u % 128)) (u / 128) r (less (suc k) u h) (λ z. absurd (omega arith)) (rw low' small) (rw next (behind s (p + i) _ _ e'))
    ∙ value_eq low' (rw more (omega arith)))

back : (s : List ℕ) (p k : ℕ) → Back s p k
back s p zero i low u r h first small e = back_one s p zero i low u r (omega arith) first small e
back s p (suc k) i low u r h first small e = by (dec_lt u 128) (back s p k)
  where
    by : Dec (u < 128) → Back s p k → reading s p (suc (suc k)) i low ≡ Ok (low + 128 ^ i * u, p + i + length (groups (suc k) u))
    by (yes l) ih = back_one s p (suc k) i low u r l first small e
    by (no l) ih = back_more s p k i low u r ih (omega arith) h small e

-- What is written at p is read there.
pub read_back : (s : List ℕ) (p v : ℕ) (r : List ℕ) → v < 4294967296 → drop p s ≡ bytes_of v ++ r → number_at s p ≡ Ok (v, p + length (bytes_of v))
read_back s p v r h e =
    let here : p + 0 ≡ p = omega arith in
    rw here at (back s p 4 0 0 v r (omega arith) (λ z. refl) (omega arith) (rw here e)) ∙ value_eq (omega arith) refl

-- Two constructors are not equal: `clash (cc e)`.
pub clash : {X : Type 0} → ◌≡◌ {A = ℕ} 0 1 → X
clash h = absurd (omega arith)

-- ---- inside a number's groups 80 is never followed by 00

-- A byte 80 is not the last, and what follows it is not 0.
abbrev Followed : List ℕ → Type 0
Followed l = (j : ℕ) → at l j ≡ 128 → (suc j < length l) × (1 ≤ at l (suc j))

followed_one : (v : ℕ) → v < 128 → Followed (v ∷ [])
followed_one v h zero e = absurd (omega arith)
followed_one v h (suc j) e = absurd (omega arith)

followed_more : (b : ℕ) (l : List ℕ) → 1 ≤ length l → 1 ≤ at l 0 → Followed l → Followed (b ∷ l)
followed_more b l some first f zero e = (omega arith, first)
followed_more b l some first f (suc j) e = let r = f j e in (omega (arith, r.0), r.1)

-- The groups of a number above 0 begin with a byte above 0.
groups_some : (k v : ℕ) → 1 ≤ v → v < 128 ^ suc k → (1 ≤ length (groups k v)) × (1 ≤ at (groups k v) 0)
groups_some zero v h b = rw (groups-one zero v (omega arith)) (omega arith, h)
groups_some (suc k) v h b = by (dec_lt v 128)
  where
    by : Dec (v < 128) → (1 ≤ length (groups (suc k) v)) × (1 ≤ at (groups (suc k) v) 0)
    by (yes l) = rw (groups-one (suc k) v l) (omega arith, h)
    by (no l) = rw (groups_more k v (omega arith)) (omega arith, omega arith)

groups_followed : (k v : ℕ) → v < 128 ^ suc k → Followed (groups k v)
groups_followed zero v b = let l : v < 128 = omega arith in rw (groups-one zero v l) (followed_one v l)
groups_followed (suc k) v b = by (dec_lt v 128) (groups_followed k (v / 128) (less (suc k) v b))
  where
    by : Dec (v < 128) → Followed (groups k (v / 128)) → Followed (groups (suc k) v)
    by (yes l) f = rw (groups-one (suc k) v l) (followed_one v l)
    by (no l) f =
        let some = groups_some k (v / 128) (omega arith) (less (suc k) v b) in
        rw (groups_more k v (omega arith)) (followed_more (v % 128 + 128) (groups k (v / 128)) some.0 some.1 f)

pub never_80_00 : (v j : ℕ) → v < 4294967296 → at (bytes_of v) j ≡ 128 → (suc j < length (bytes_of v)) × (1 ≤ at (bytes_of v) (suc j))
never_80_00 v j h = groups_followed 4 v (omega arith) j

-- ---- what lies behind a number's five bytes changes nothing

reading_begun : (s : List ℕ) (k p j i low : ℕ) → p + i + j ≤ k → k ≤ length s → reading (take k s) p j i low ≡ reading s p j i low
unfolding reading
reading_begun s k p zero i low h l = refl
reading_begun s k p (suc j) i low h l =
    let e : length (take k s) ≡ k = length-take-le k s l in
    rw (get_or-take k s (p + i) 0 (omega arith), lt-ltb (p + i) (length (take k s)) (omega arith), lt-ltb (p + i) (length s) (omega arith))
    (rw (reading_begun s k p j (suc i) (low + 128 ^ i * (at s (p + i) - 128)) (omega arith) l) refl)

pub number_begun : (s : List ℕ) (k p : ℕ) → p + 5 ≤ k → k ≤ length s → number_at (take k s) p ≡ number_at s p
number_begun s k p h l = reading_begun s k p 5 0 0 (omega arith) l
