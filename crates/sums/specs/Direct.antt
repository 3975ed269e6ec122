-- The direct sums as the code takes them, oldest first over neighbouring places of a store.
use Rattle.std.specs.Prelude.{◌≡◌, refl, List, [], ◌∷◌, ℕ, zero, suc, ◌+◌, ◌-◌, ◌*◌, ◌/◌, ◌^◌, ◌≤◌, ◌<◌, ℤ, pos, negsuc, neg_ℤ, nat_abs, ◌+ℤ◌, ◌-ℤ◌, ◌*ℤ◌, length}
use Rattle.std.proofs.Common.{sym, ap, subst, ◌∙◌, arith, SFits}
use Rattle.std.specs.Int.Signed.{mag, nat_abs-le}
use Rattle.std.specs.Int.{w16, w32}
use Rattle.whole.specs.Bounds.{Within, minus-down, w_sub, w_mul}
use Rattle.whole.specs.Floor.{floor-is, floor-mag}
use Rattle.whole.specs.Numbers.{floor_div, fold, sum, total}
use Rattle.rules.specs.Facts.{value_at}
use Rattle.whole.specs.Ring.{var, con, ◌⊕◌, ◌⊖◌, ◌⊗◌, solve}
use Rattle.whole.specs.Sums.{adds, addsℤ, fold-below, fold-reverse}
use Rattle.rules.specs.Rules.{Sound, sq, E, H}
use Rattle.ages.specs.Ages.{past, past_at}
use Rattle.sums.specs.Kept.{squares}

-- the parts of a product, summed apart
abbrev pub high_of : ℤ → ℤ
high_of z = floor_div z 65536

abbrev pub low_of : ℤ → ℤ
low_of z = z -ℤ high_of z *ℤ pos 65536

pub high_small : (z : ℤ) → nat_abs z < 2 ^ 31 → Within 32768 (high_of z)
high_small z h = record { within = nat_abs-le (high_of z) (floor-mag z 32768 65536 (omega arith) (below z h)) }
  where
    below : (z : ℤ) → nat_abs z < 2 ^ 31 → mag z < 32768 * 65536
    below (pos a) h = omega arith
    below (negsuc a) h = omega arith

-- and put back to its place it fits, though -32768 x 65536 only just
pub high_fits : (z : ℤ) → nat_abs z < 2 ^ 31 → SFits w32 (high_of z *ℤ pos 65536)
high_fits (pos a) h = record { sfits = omega arith }
high_fits (negsuc a) h =
    let e : suc (a / 65536) * 65536 ≡ suc (a / 65536 * 65536 + 65535) = omega arith in subst (λ (n : ℕ). SFits w32 (neg_ℤ (pos n))) (sym e) (record { sfits = omega arith })

-- a product of samples less 1 is shorter than 2^30: where it is negative, one factor is 32767 at most
down : (n : ℕ) → n ≤ 2 ^ 30 → nat_abs (pos n -ℤ pos 1) < 2 ^ 30
down zero h = omega arith
down (suc n) h = rw (minus-down (suc n) 1 (omega arith)) (omega arith)

further : (z : ℤ) → nat_abs z + 1 < 2 ^ 30 → nat_abs (z -ℤ pos 1) < 2 ^ 30
further z h = let w = w_sub {A = nat_abs z} {B = 1} {a = z} {b = pos 1} (record { within = omega arith }) (record { within = omega arith }) in omega (arith, w.within)

pub less_small : (x y : ℤ) → SFits w16 x → SFits w16 y → nat_abs (x *ℤ y -ℤ pos 1) < 2 ^ 30
less_small (pos a) (pos b) f g =
    let w = w_mul {A = 32767} {B = 32767} {a = pos a} {b = pos b} (record { within = omega (arith, f.sfits) }) (record { within = omega (arith, g.sfits) }) in down (a * b) (omega (arith, w.within))
less_small (pos a) (negsuc b) f g =
    let w = w_mul {A = 32767} {B = 32768} {a = pos a} {b = negsuc b} (record { within = omega (arith, f.sfits) }) (record { within = omega (arith, g.sfits) }) in further (pos a *ℤ negsuc b) (omega (arith, w.within))
less_small (negsuc a) (pos b) f g =
    let w = w_mul {A = 32768} {B = 32767} {a = negsuc a} {b = pos b} (record { within = omega (arith, f.sfits) }) (record { within = omega (arith, g.sfits) }) in further (negsuc a *ℤ pos b) (omega (arith, w.within))
less_small (negsuc a) (negsuc b) f g =
    let w = w_mul {A = 32768} {B = 32768} {a = negsuc a} {b = negsuc b} (record { within = omega (arith, f.sfits) }) (record { within = omega (arith, g.sfits) }) in down (suc a * suc b) (omega (arith, w.within))

pub low_small : (z : ℤ) → Within 65536 (low_of z)
low_small z =
    let f = floor-is z 65536 (omega arith) in
    let e : low_of z ≡ pos f.rest =
    ap (λ (a : ℤ). a -ℤ high_of z *ℤ pos 65536) f.whole
    ∙ solve (high_of z ∷ pos f.rest ∷ []) (var 0 ⊗ con (pos 65536) ⊕ var 1 ⊖ var 0 ⊗ con (pos 65536)) (var 1) refl
    in
    record { within = omega (arith, ap nat_abs e, f.small) }

pub parts : (f : ℕ → ℤ) (n : ℕ) → sum (λ (k : ℕ). high_of (f k)) n *ℤ pos 65536 +ℤ sum (λ (k : ℕ). low_of (f k)) n ≡ sum f n
unfolding fold
parts f zero = refl
parts f (suc n) =
    solve (sum (λ (k : ℕ). high_of (f k)) n ∷ sum (λ (k : ℕ). low_of (f k)) n ∷ high_of (f n) ∷ f n ∷ [])
    ((var 0 ⊕ var 2) ⊗ con (pos 65536) ⊕ (var 1 ⊕ (var 3 ⊖ var 2 ⊗ con (pos 65536))))
    (var 0 ⊗ con (pos 65536) ⊕ var 1 ⊕ var 3) refl
    ∙ ap (λ (a : ℤ). a +ℤ f n) (parts f n)

-- products of neighbours, from two places of a store on
abbrev pub products : List ℤ → (to from : ℕ) → ℕ → ℤ
products s to from k = value_at s (to + k) *ℤ value_at s (from + k)

-- two products added, less 1, and the sum of n such pairs: that of 2 n products, less n
abbrev pub paired : (ℕ → ℤ) → ℕ → ℤ
paired f k = f (2 * k) -ℤ pos 1 +ℤ f (2 * k + 1)

pub pairs_sum : (f : ℕ → ℤ) (n : ℕ) → sum (paired f) n +ℤ pos n ≡ sum f (2 * n)
unfolding fold
pairs_sum f zero = refl
pairs_sum f (suc n) =
    let next : pos (suc n) ≡ pos n +ℤ pos 1 = ap pos (omega arith) in
    let twice : 2 * suc n ≡ suc (suc (2 * n)) = omega arith in
    let odd : 2 * n + 1 ≡ suc (2 * n) = omega arith in
    ap (λ (z : ℤ). sum (paired f) n +ℤ paired f n +ℤ z) next
    ∙ solve (sum (paired f) n ∷ f (2 * n) ∷ f (2 * n + 1) ∷ pos n ∷ []) (var 0 ⊕ (var 1 ⊖ con (pos 1) ⊕ var 2) ⊕ (var 3 ⊕ con (pos 1))) ((var 0 ⊕ var 3) ⊕ var 1 ⊕ var 2) refl
    ∙ (λ i. pairs_sum f n i +ℤ f (2 * n) +ℤ f (odd i))
    ∙ ap (sum f) (sym twice)

-- a product more
pub one_more_lem : (f : ℕ → ℤ) (n m : ℕ) → suc n ≡ m → sum f n +ℤ f n ≡ sum f m
unfolding fold
one_more_lem f n m e = ap (sum f) e

-- E is the sum of the squares of the newest 2 L
pub E-squares : (x : Sound) (L : ℕ) → squares x (2 * L) ≡ E x L
unfolding E
E-squares x L = refl

module _ (s : List ℤ) (n : ℕ) (h : n ≤ length s) where
  -- the newest n, oldest first, stand from length s - n on
  place : (j k : ℕ) → j + suc k ≡ n → past s j ≡ value_at s (length s - n + k)
  place j k e = past_at s j (omega arith) ∙ ap (value_at s) (omega arith)

  pub oldest_squares : total (λ (k : ℕ). sq (value_at s (length s - n + k))) n ≡ squares (past s) n
  oldest_squares =
      sym (fold-reverse adds (λ (k : ℕ). sq (past s k)) n
      ∙ fold-below adds (λ (k : ℕ). sq (past s (n - suc k))) (λ (k : ℕ). sq (value_at s (length s - n + k))) n (λ k l. ap sq (place (n - suc k) k (omega arith))))

-- H of the newest 2 L, from the two places where they start
pub oldest_products : (s : List ℤ) (L : ℕ) → 2 * L ≤ length s
    → sum (λ (k : ℕ). value_at s (length s - L + k) *ℤ value_at s (length s - L - L + k)) L ≡ H (past s) L
unfolding H
oldest_products s L h =
    sym (fold-reverse addsℤ (λ (k : ℕ). past s k *ℤ past s (k + L)) L
    ∙ fold-below addsℤ (λ (k : ℕ). past s (L - suc k) *ℤ past s (L - suc k + L)) (λ (k : ℕ). value_at s (length s - L + k) *ℤ value_at s (length s - L - L + k)) L
    (λ k l i. place s L (omega arith) (L - suc k) k (omega arith) i *ℤ (place s (2 * L) h (L - suc k + L) k (omega arith) ∙ ap (value_at s) (let e : length s - 2 * L + k ≡ length s - L - L + k = omega arith in e)) i))
