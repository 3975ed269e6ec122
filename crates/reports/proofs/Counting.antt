-- Laws of figures: those of a block by the periods and rates told of its samples, figures of takes one after the other, and how large they get.
use Rattle.std.specs.Prelude.{◌≡◌, refl, List, [], ◌∷◌, ◌++◌, map, ℕ, ◌+◌, ◌≤◌, ◌<◌, eqb, ℤ, length, take, get_or}
use Rattle.std.proofs.Common.{ap, ◌∙◌, add-one, arith, length-append, take-suc}
use Rattle.whole.specs.Tests.{cond_case}
use Rattle.rules.specs.declared.InForce.{InForce}
use Rattle.rules.specs.Rules.{Take, Given, away, fresh_rate, stepped, gives, gathered, all_repeated, all_dropped}
use Rattle.rules.specs.Facts.{ForceIn}
use Rattle.rules.proofs.Blocks.{gathered-append}
use Rattle.rules.proofs.Position.{tone-rate}
use Rattle.rules.specs.Sane.{Sane}
use Rattle.rules.proofs.Sane.{stepped_sane, at_most_one_cycle}
use Rattle.reports.specs.declared.Figures.{Figures}
use Rattle.reports.specs.Reports.{pitched_of, distance_of, figures_of, added, no_figures}
use Rattle.reports.specs.Counting.{Within, block_figures, distance_in, one_pitched, pitched_in}

-- one more
pitched-end : (ps : List ℕ) (p : ℕ) → pitched_in (ps ++ (p ∷ [])) ≡ pitched_in ps + one_pitched p
unfolding pitched_in
pitched-end [] p = omega arith
pitched-end (q ∷ ps) p = omega (arith, pitched-end ps p)

distance-end : (rs : List ℕ) (r : ℕ) → distance_in (rs ++ (r ∷ [])) ≡ distance_in rs + away r fresh_rate
unfolding distance_in
distance-end [] r = omega arith
distance-end (q ∷ rs) r = omega (arith, distance-end rs r)

pub pitched-more : (ps : List ℕ) (i : ℕ) → i < length ps → pitched_in (take (i + 1) ps) ≡ pitched_in (take i ps) + one_pitched (get_or ps i 0)
pitched-more ps i h = ap pitched_in (ap (λ (n : ℕ). take n ps) (add-one i) ∙ take-suc ps i 0 h) ∙ pitched-end (take i ps) (get_or ps i 0)

pub distance-more : (rs : List ℕ) (i : ℕ) → i < length rs → distance_in (take (i + 1) rs) ≡ distance_in (take i rs) + away (get_or rs i 0) fresh_rate
distance-more rs i h = ap distance_in (ap (λ (n : ℕ). take n rs) (add-one i) ∙ take-suc rs i 0 h) ∙ distance-end (take i rs) (get_or rs i 0)

pub none-pitched : pitched_in [] ≡ 0
unfolding pitched_in
none-pitched = refl

pub no_distance : distance_in [] ≡ 0
unfolding distance_in
no_distance = refl

pub one_pitched_few : (p : ℕ) → one_pitched p ≤ 1
one_pitched_few p = cond_case (eqb p 0) 0 1 (λ (n : ℕ). n ≤ 1) (λ e. omega arith) (λ e. omega arith)

-- told of what the rules gave
pitched-told : (gs : List Given) (ps : List ℕ) → pitched_in (take (length gs) (map (λ (g : Given). g.tone.period) gs ++ ps)) ≡ pitched_of gs
unfolding pitched_in pitched_of
pitched-told [] ps = refl
pitched-told (g ∷ gs) ps = ap (λ (n : ℕ). one_pitched g.tone.period + n) (pitched-told gs ps)

distance-told : (gs : List Given) (rs : List ℕ) → distance_in (take (length gs) (map (λ (g : Given). g.tone.rate) gs ++ rs)) ≡ distance_of gs
unfolding distance_in distance_of
distance-told [] rs = refl
distance-told (g ∷ gs) rs = ap (λ (n : ℕ). away g.tone.rate fresh_rate + n) (distance-told gs rs)

pub block-counted : (gs : List Given) (ps rs : List ℕ)
    → block_figures (length gs) (take (length gs) (map (λ (g : Given). g.tone.period) gs ++ ps)) (take (length gs) (map (λ (g : Given). g.tone.rate) gs ++ rs)) (length (all_repeated gs)) (length (all_dropped gs)) ≡ figures_of gs
unfolding figures_of
block-counted gs ps rs =
    λ i. record { samples = length gs; pitched = pitched-told gs ps i; repeated = length (all_repeated gs); dropped = length (all_dropped gs); sum = distance-told gs rs i }

-- ---- samples, and more after them: the figures add up

pitched-append : (gs hs : List Given) → pitched_of (gs ++ hs) ≡ pitched_of gs + pitched_of hs
unfolding pitched_of
pitched-append [] hs = omega arith
pitched-append (g ∷ gs) hs = omega (arith, pitched-append gs hs)

distance-append : (gs hs : List Given) → distance_of (gs ++ hs) ≡ distance_of gs + distance_of hs
unfolding distance_of
distance-append [] hs = omega arith
distance-append (g ∷ gs) hs = omega (arith, distance-append gs hs)

cycles-append : (part : Given → List ℕ) (gs hs : List Given) → length (gathered part (gs ++ hs)) ≡ length (gathered part gs) + length (gathered part hs)
cycles-append part gs hs = ap length (gathered-append part gs hs) ∙ length-append (gathered part gs) (gathered part hs)

pub figures-append : (gs hs : List Given) → figures_of (gs ++ hs) ≡ added (figures_of gs) (figures_of hs)
unfolding figures_of added
figures-append gs hs =
    λ i. record {
      samples = length-append gs hs i;
      pitched = pitched-append gs hs i;
      repeated = cycles-append (λ (g : Given). g.repeats) gs hs i;
      dropped = cycles-append (λ (g : Given). g.drops) gs hs i;
      sum = distance-append gs hs i;
    }

pub figures-none : figures_of [] ≡ no_figures
unfolding figures_of pitched_of distance_of gathered
figures-none = refl

pub within_none : Within 0 no_figures
within_none = record { samples = omega arith; pitched = omega arith; repeated = omega arith; dropped = omega arith; sum = omega arith }

pub within_more : {m n : ℕ} {f : Figures} → m ≤ n → Within m f → Within n f
within_more h w = record { samples = omega (arith, w.samples); pitched = omega (arith, w.pitched); repeated = omega (arith, w.repeated); dropped = omega (arith, w.dropped); sum = omega (arith, w.sum) }

pub within-added : {m n : ℕ} (a b : Figures) → Within m a → Within n b → Within (m + n) (added a b)
unfolding added
within-added a b v w =
    record {
      samples = omega (arith, v.samples, w.samples);
      pitched = omega (arith, v.pitched, w.pitched);
      repeated = omega (arith, v.repeated, w.repeated);
      dropped = omega (arith, v.dropped, w.dropped);
      sum = omega (arith, v.sum, w.sum);
    }

-- what the rules give for one sample
one-within : {f : InForce} → ForceIn f → {t : Take} → Sane t → (x : ℤ) → Within 1 (figures_of ((stepped f t x).given ∷ []))
unfolding stepped figures_of pitched_of distance_of gathered
one-within {f} r {t} h x =
    let g = (stepped f t x).given in
    let rate = tone-rate (stepped_sane r h x).pitch.tone in
    let cycle = at_most_one_cycle r h x in
    record {
      samples = omega arith;
      pitched = omega (arith, one_pitched_few g.tone.period);
      repeated = omega (arith, cycle, length-append g.repeats []);
      dropped = omega (arith, cycle, length-append g.drops []);
      sum = omega (arith, rate.0, rate.1);
    }

pub gives-within : {f : InForce} → ForceIn f → {t : Take} → Sane t → (xs : List ℤ) → Within (length xs) (figures_of (gives f t xs))
unfolding gives
gives-within {f} r {t = t} h [] = rw figures-none within_none
gives-within {f} r {t = t} h (x ∷ xs) =
    let one = one-within r h x in
    let rest = gives-within r {t = (stepped f t x).next} (stepped_sane r h x) xs in
    rw (figures-append ((stepped f t x).given ∷ []) (gives f (stepped f t x).next xs)) (within_more (omega arith) (within-added _ _ one rest))
