-- Sounds of kept samples and the sums over them, silence among them; the eighth-rate samples of a block.
use Rattle.std.specs.Prelude.{◌≡◌, refl, Bool, true, false, cond, List, [], ◌∷◌, ◌++◌, ℕ, zero, suc, ◌+◌, ◌-◌, ◌*◌, ◌/◌, ◌%◌, ◌≤◌, ◌<◌, ◌≢◌, leb, eqb, ℤ, pos, ◌*ℤ◌, length, take, drop, replicate}
use Rattle.std.proofs.Common.{sym, ap, ◌∙◌, subst, arith, eqb-true, leb-true, leb-false, length-take, length-drop, length-append, ext_get_or, get_or-take, get_or-drop, SFits}
use Rattle.std.proofs.lemmas.Bool.{eqb-false}
use Rattle.std.proofs.lemmas.List.{length-replicate, get_or-replicate}
use Rattle.std.proofs.Math.ListN.{get_or-eq_default}
use Rattle.std.specs.Int.{w16}
use Rattle.whole.specs.Tests.{by, cond_case}
use Rattle.whole.specs.Bounds.{nat_abs-zero}
use Rattle.whole.specs.Lists.{length-list_of}
use Rattle.whole.specs.Sums.{sum-within, total-zero}
use Rattle.rules.specs.declared.InForce.{InForce}
use Rattle.rules.specs.Rules.{Sound, heard, heard_all, sq, E, H, eighth_due, eighth_sample, eighths_after, Take, after, stepped}
use Rattle.rules.proofs.Energies.{E-same, H-same}
use Rattle.rules.specs.Facts.{value_at, Right, keeping}
use Rattle.rules.proofs.Hearing.{all-heard}
use Rattle.ages.specs.Ages.{ago-at, Samples}
use Rattle.record.specs.declared.Heard.{Heard}
use Rattle.record.specs.Records.{sound_of, made, heard_after}
use Rattle.record.specs.Parts.{ago-all, Stores}

-- ---- a part of a store

-- its samples fit where all do
pub samples-part : (n k : ℕ) {s r : List ℤ} → Samples s → r ≡ take n (drop k s) → Samples r
samples-part n k {s} p e = subst Samples (sym e) (record { each = fits })
  where
    fits : (i : ℕ) → SFits w16 (value_at (take n (drop k s)) i)
    fits i =
        by (leb n i)
        (λ e. rw (get_or-eq_default (take n (drop k s)) (pos 0) {n = i} (omega (arith, length-take n (drop k s), leb-true n i e))) (record { sfits = omega arith }))
        (λ e. rw (get_or-take n (drop k s) i (pos 0) (omega (arith, leb-false n i e)), get_or-drop k s i (pos 0)) (p.each (k + i)))

-- the newest of a store and of what came are as many as it had
pub keeping-length : (kept new : List ℤ) → length (keeping kept new) ≡ length kept
keeping-length kept new = omega (arith, length-drop (length new) (kept ++ new), length-append kept new)

-- ---- a sound and its list
pub sound-at : (l : List ℤ) (i : ℕ) → i < length l → sound_of l i ≡ value_at l (length l - 1 - i)
sound-at l i h = ap (λ (x : Sound). x i) (sym (ago-all l (length l) refl)) ∙ ago-at l (length l) i (omega arith) h

-- lists of one length with the same sound are the same
pub same-sound : (a b : List ℤ) → length a ≡ length b → sound_of a ≡ sound_of b → a ≡ b
same-sound a b e s =
    ext_get_or (pos 0) a b e
    (λ i h.
    let p : length a - 1 - (length a - 1 - i) ≡ i = omega arith in
    let q : length b - 1 - (length a - 1 - i) ≡ i = omega arith in
    sym (sound-at a (length a - 1 - i) (omega arith) ∙ ap (value_at a) p) ∙ ap (λ (x : Sound). x (length a - 1 - i)) s ∙ sound-at b (length a - 1 - i) (omega arith) ∙ ap (value_at b) q)

-- the newest of a list sound as the list, as far back as they go
pub kept_age : (k : ℕ) (l : List ℤ) (i : ℕ) → i < length (drop k l) → sound_of (drop k l) i ≡ sound_of l i
kept_age k l i h =
    let d = length-drop k l in
    let e : k + (length (drop k l) - 1 - i) ≡ length l - 1 - i = omega arith in
    sound-at (drop k l) i h ∙ get_or-drop k l (length (drop k l) - 1 - i) (pos 0) ∙ ap (value_at l) e ∙ sym (sound-at l i (omega arith))

-- sums are right over any sound with the same newest samples
pub right-alike : {x y : Sound} {low n : ℕ} {e : List ℕ} {h : List ℤ} → ((i : ℕ) → i < 2 * (low + n) → x i ≡ y i) → Right x low n e h → Right y low n e h
right-alike {x} {y} {low} same r =
    record {
      energies = r.energies;
      correlations = r.correlations;
      energy = λ j m. r.energy j m ∙ E-same x y (low + j) (λ i g. same i (omega arith));
      correlation = λ j m. r.correlation j m ∙ H-same x y (low + j) (λ i g. same i (omega arith));
    }

pub newest-right : {low n : ℕ} {e : List ℕ} {h : List ℤ} (k : ℕ) (l : List ℤ) → 2 * (low + n) ≤ length (drop k l) → Right (sound_of l) low n e h → Right (sound_of (drop k l)) low n e h
newest-right k l few r = right-alike (λ i g. sym (kept_age k l i (omega arith))) r

-- stores with more samples heard are as long as they were
pub stores-after : {h h' : Heard} (xs : List ℤ) → Stores h → h' ≡ heard_after h xs → Samples h'.store → Samples h'.eighths → Stores h'
unfolding heard_after
stores-after {h} xs st e s y =
    record {
      store = ap (λ (u : Heard). length u.store) e ∙ keeping-length h.store xs ∙ st.store;
      eighths = ap (λ (u : Heard). length u.eighths) e ∙ keeping-length h.eighths (made h.count (sound_of h.store) xs) ∙ st.eighths;
      energies = ap (λ (u : Heard). length u.energies) e ∙ length-list_of _ 109;
      correlations = ap (λ (u : Heard). length u.correlations) e ∙ length-list_of _ 109;
      store_fits = s;
      eighths_fit = y;
    }

-- ---- silence

-- silence, and zeros heard after it
pub still-silent : (n : ℕ) (x : Sound) → ((k : ℕ) → x k ≡ pos 0) → (k : ℕ) → heard_all x (replicate n (pos 0)) k ≡ pos 0
unfolding heard_all
still-silent zero x p = p
still-silent (suc n) x p = still-silent n (heard (pos 0) x) (all-heard (λ z. z ≡ pos 0) p refl)

pub silent-right : {x : Sound} (low n : ℕ) → ((k : ℕ) → x k ≡ pos 0) → Right x low n (replicate n 0) (replicate n (pos 0))
unfolding E H
silent-right {x} low n p =
    record {
      energies = length-replicate n 0;
      correlations = length-replicate n (pos 0);
      energy = λ j h. get_or-replicate n j 0 0 h ∙ sym (total-zero (λ (k : ℕ). sq (x k)) (2 * (low + j)) (λ k l. ap sq (p k)));
      correlation = λ j h.
          get_or-replicate n j (pos 0) (pos 0) h
          ∙ sym (nat_abs-zero (H x (low + j)) (omega (arith, (sum-within 0 (λ (k : ℕ). x k *ℤ x (k + (low + j))) (λ k. record { within = rw (p k, p (k + (low + j))) (omega arith) }) (low + j)).within)));
    }

-- ---- the eighth-rate samples of a block
pub made-length : (n : ℕ) (x : Sound) (xs : List ℤ) → length (made n x xs) + n / 8 ≡ (n + length xs) / 8
unfolding made eighth_due
made-length n x [] = omega arith
made-length n x (new ∷ more) =
    let h = made-length (suc n) (heard new x) more in
    cond_case (eqb (suc n % 8) 0) (eighth_sample (heard new x) ∷ made (suc n) (heard new x) more) (made (suc n) (heard new x) more)
    (λ (l : List ℤ). length l + n / 8 ≡ (n + suc (length more)) / 8)
    (λ e. let d = eqb-true (suc n % 8) 0 e in omega arith)
    (λ e. let d : suc n % 8 ≢ 0 = eqb-false (suc n % 8) 0 e in omega arith)

-- those of one sample and of more samples after it
pub eighths-next : (n : ℕ) (x y : Sound) (new : ℤ) (more : List ℤ) → heard_all (eighths_after (suc n) (heard new x) y) (made (suc n) (heard new x) more) ≡ heard_all y (made n x (new ∷ more))
unfolding made heard_all eighths_after
eighths-next n x y new more = either (eighth_due (suc n)) (eighth_sample (heard new x)) y (made (suc n) (heard new x) more)
  where
    either : (b : Bool) (z : ℤ) (y : Sound) (zs : List ℤ) → heard_all (cond b (heard z y) y) zs ≡ heard_all y (cond b (z ∷ zs) zs)
    either true z y zs = refl
    either false z y zs = refl

pub after-eighths : (f : InForce) (t : Take) (xs : List ℤ) → (after f t xs).eighths ≡ heard_all t.eighths (made t.count t.sound xs)
unfolding after made heard_all stepped
after-eighths f t [] = refl
after-eighths f t (new ∷ more) = after-eighths f (stepped f t new).next more ∙ eighths-next t.count t.sound t.eighths new more
