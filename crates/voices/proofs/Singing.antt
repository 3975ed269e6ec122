-- A voice over the samples of a block: where its position stands after each, and what it writes there. The code keeps it by how far it lies behind the input.
-- Its rate is the tracked period over an entry of the table, so it lies no farther from one than a cycle is long: the lead's bounds are its own.
use Rattle.std.specs.Prelude.{◌≡◌, Bool, ◌&&◌, List, ◌++◌, ◌-ℤ◌, length, get_or}
use Rattle.std.proofs.Math.Path.{refl, ap, subst, transport}
use Rattle.std.proofs.Common.{sym, ◌∙◌, add-zero, add-suc, div-lt_iff_lt-mul, le-div_iff_mul-le, length-set}
use Prim.Native.Nat.{ℕ, zero, suc, ◌+◌, ◌-◌, ◌*◌, ◌≤◌, ◌<◌}
use Rattle.std.proofs.Math.Nat.{mul-le-mul_right}
use native.Mathlib.Omega.{arith}
use Rattle.std.proofs.Math.Numerals.{add-one}
use borrow.Author.Tests.{leb-true, ltb-true, ltb-false, lt-ltb, le-ltb}
use Rattle.std.proofs.Math.Dec.{leb, ltb}
use Rattle.std.proofs.Math.IntN.{ℤ, pos, +ℤ_idr}
use Rattle.std.proofs.Math.ListN.{set, drop, length-append}
use Rattle.whole.specs.Tests.{by, cond_yes, cond_no, and_no}
use Rattle.rules.specs.Rules.{longest_block, table, first_note, cd_table, film_table, least_period, greatest_period, farthest, input_at, Growth, growth, reading, raw_rate, wanted_period}
use Rattle.rules.specs.Facts.{SampleRate, OfTable}
use Rattle.rules.proofs.Table.{at_each_note}
use Rattle.rules.specs.Notes.{end}
use Rattle.rules.proofs.Notes.{period_of_table, period-below, period-above}
use Rattle.rules.specs.Position.{Paced}
use Rattle.rules.proofs.Position.{growth-keeps, growth-drops, growth-repeats}
use Rattle.ages.specs.Ages.{ago}
use Rattle.reading.specs.Gliding.{one_more_lem}
use Rattle.voices.specs.Voices.{voice_period, voice_rate, Voiced, voiced}
use Rattle.voices.specs.Singing.{Kept, Moved, RateIn, Sang, SangTo, Sounded, Tracked, sing_after, sing_next, sing_outs}

-- ---- the rate

-- without a period, or an entry, it is silent
pub rate-none : (hertz interval : ℕ) {p : ℕ} (n : ℕ) → p ≡ 0 → voice_rate hertz interval p n ≡ 0
unfolding voice_rate
rate-none hertz interval {p} n e = cond_no _ 0 (ap (λ (b : Bool). b && ltb 0 (voice_period hertz interval n)) (le-ltb 0 p (omega arith)))

pub rate_outside : (hertz interval : ℕ) (p n : ℕ) → voice_period hertz interval n ≡ 0 → voice_rate hertz interval p n ≡ 0
unfolding voice_rate
rate_outside hertz interval p n e = cond_no _ 0 (and_no (ltb 0 p) (le-ltb 0 (voice_period hertz interval n) (omega arith)))

-- else it is the period over the entry
pub rate-is : (hertz interval : ℕ) (p n : ℕ) → 0 < p → 0 < voice_period hertz interval n → voice_rate hertz interval p n ≡ raw_rate p (voice_period hertz interval n)
unfolding voice_rate
rate-is hertz interval p n h k = cond_yes _ 0 (ap (λ (b : Bool). b && ltb 0 (voice_period hertz interval n)) (lt-ltb 0 p h) ∙ lt-ltb 0 (voice_period hertz interval n) k)

-- the entries of both tables lie from 4,151 to 223,418
entry_range : {hertz : ℕ} → SampleRate hertz → (n : ℕ) → 0 < wanted_period hertz n → (4151 ≤ wanted_period hertz n) × (wanted_period hertz n ≤ 223418)
entry_range {hertz} rate n =
    by (ltb n (first_note hertz))
    (λ e h. absurd (omega (arith, period-below hertz (ltb-true n (first_note hertz) e))))
    (λ e. by (ltb n (end hertz))
    (λ f h. let t : OfTable hertz n = record { from = ltb-false n (first_note hertz) e; upto = ltb-true n (end hertz) f } in
    rw (period_of_table hertz t) (
      leb-true _ _ (at_each_note (λ hertz n p. leb 4151 p) (unfold table first_note cd_table film_table in (refl, refl)) rate t),
      leb-true _ _ (at_each_note (λ hertz n p. leb p 223418) (unfold table first_note cd_table film_table in (refl, refl)) rate t),
    ))
    (λ f h. absurd (omega (arith, period-above hertz (ltb-false n (end hertz) f)))))

-- a period over an entry
module _ (p w : ℕ) (from : least_period ≤ p) (upto : p ≤ greatest_period) (least : 4151 ≤ w) (most : w ≤ 223418) where
  some_entry : 0 < 2 * w
  some_entry = omega arith

  over_range : RateIn (raw_rate p w)
  unfolding raw_rate
  over_range =
      let below : raw_rate p w < 3556722 = (div-lt_iff_lt-mul some_entry).1 (omega arith) in
      record { from = (le-div_iff_mul-le some_entry).1 (omega arith); upto = omega arith }

  over-paced : Paced (raw_rate p w) p
  unfolding raw_rate
  over-paced =
      let k : 4151 * p ≤ w * p = mul-le-mul_right p least in
      let below : raw_rate p w < 16 * p + 2 = (div-lt_iff_lt-mul some_entry).1 (omega (arith, k)) in
      record { slow = omega arith; fast = omega arith; upto = upto }

-- a voice is silent; or its rate lies from 1,201 to 3,556,721, and one cycle mends what one sample does
module _ {hertz : ℕ} (known : SampleRate hertz) (interval : ℕ) {p n : ℕ} (k : Tracked p n) where
  sounding : 0 < voice_rate hertz interval p n → (0 < p) × (0 < voice_period hertz interval n)
  sounding h =
      by (ltb 0 p)
      (λ e. by (ltb 0 (voice_period hertz interval n))
      (λ f. (ltb-true 0 p e, ltb-true 0 (voice_period hertz interval n) f))
      (λ f. absurd (omega (arith, h, rate_outside hertz interval p n (omega (arith, ltb-false 0 (voice_period hertz interval n) f))))))
      (λ e. absurd (omega (arith, h, rate-none hertz interval {p = p} n (omega (arith, ltb-false 0 p e)))))

  pub rate_range : 0 < voice_rate hertz interval p n → RateIn (voice_rate hertz interval p n)
  rate_range h =
      let s = sounding h in
      let e = entry_range known _ s.1 in
      subst RateIn (sym (rate-is hertz interval p n s.0 s.1)) (over_range p _ (k.from s.0) k.upto e.0 e.1)

  pub rate-kept : Kept (voice_rate hertz interval p n) p
  rate-kept h =
      let s = sounding h in
      let e = entry_range known _ s.1 in
      subst (λ (r : ℕ). Paced r p) (sym (rate-is hertz interval p n s.0 s.1)) (over-paced p _ (k.from s.0) k.upto e.0 e.1)

-- ---- one sample

-- silent, by its rate
pub voiced-silent : {behind p m i : ℕ} (rate : ℕ) {s outs : List ℤ} → rate ≡ 0 → Sounded behind rate p s m i outs (set outs i (pos 0)) 0
unfolding voiced
voiced-silent zero e = record { near = omega arith; position = λ n. sym (+ℤ_idr (input_at (suc n))); out = λ n. refl }
voiced-silent (suc r) e = absurd (omega arith)

-- or as its position grows and it reads
pub voiced_sounds : {behind p m i r : ℕ} (rate : ℕ) {s outs outs' : List ℤ} → 0 < rate → Moved behind rate p r → ((n : ℕ) → outs' ≡ set outs i (reading (ago s m) n (input_at n -ℤ pos r))) → Sounded behind rate p s m i outs outs' r
unfolding voiced
voiced_sounds zero h d o = absurd (omega arith)
voiced_sounds {m = m} {i} (suc k) {s} {outs} h d o = record { near = d.near; position = d.position; out = λ n. o (suc n) ∙ ap (λ (z : ℤ). set outs i (reading (ago s m) (suc n) z)) (sym (d.position n)) }

-- the three ways of a growth
moved_to : {behind rate p r : ℕ} {again gone : List ℕ} → r ≤ farthest → ((n : ℕ) → growth (suc n) rate p (input_at n -ℤ pos behind) ≡ record { position = input_at (suc n) -ℤ pos r; repeats = again; drops = gone }) → Moved behind rate p r
moved_to near is = record { near = near; position = λ n. ap (λ (g : Growth). g.position) (is n) }

module _ (behind rate p : ℕ) where
  pub moved_on : rate ≤ behind + 65536 → behind + 65536 - rate ≤ farthest → Moved behind rate p (behind + 65536 - rate)
  moved_on l k = moved_to k (λ n. growth-keeps n behind rate p refl l k)

  pub moved_back : Paced rate p → behind + 65536 < rate → Moved behind rate p (behind + 65536 + 256 * p - rate)
  moved_back r l = moved_to (omega (arith, l, r.fast, r.upto)) (λ n. growth-repeats n behind rate p refl l r.fast r.upto)

  pub moved_forward : behind ≤ farthest → Paced rate p → rate ≤ behind + 65536 → farthest < behind + 65536 - rate → Moved behind rate p (behind + 65536 - (256 * p + rate))
  moved_forward near r l k =
      let e : behind + 65536 - rate - 256 * p ≡ behind + 65536 - (256 * p + rate) = omega (arith, l) in
      subst (Moved behind rate p) e (moved_to (omega (arith, k, r.slow, r.upto, near)) (λ n. growth-drops n behind rate p refl k r.upto))

-- ---- one after the other

module _ (hertz interval n : ℕ) (at : ℤ) (periods notes : List ℕ) (s : List ℤ) (m : ℕ) where
  sing_length : (i : ℕ) → length (sing_outs hertz interval n at periods notes s m i) ≡ i
  unfolding sing_outs
  sing_length zero = refl
  sing_length (suc i) = length-append (sing_outs hertz interval n at periods notes s m i) _ ∙ ap (λ (k : ℕ). k + 1) (sing_length i) ∙ add-one i

module _ (hertz interval behind : ℕ) (periods notes : List ℕ) (s : List ℤ) (m : ℕ) (outs : List ℤ) where
  -- no sample yet
  pub sang-none : behind ≤ farthest → Sang hertz interval behind periods notes s m 0 outs outs behind
  unfolding sing_after sing_outs
  sang-none near = record { near = near; position = λ n. (λ j. input_at (sym (add-zero n) j) -ℤ pos behind); out = λ n. refl }

  -- one more
  pub sang-more : {i : ℕ} {outs₁ outs₂ : List ℤ} {b r : ℕ} → i < length outs → Sang hertz interval behind periods notes s m i outs outs₁ b
      → Sounded b (voice_rate hertz interval (get_or periods i 0) (get_or notes i 0)) (get_or periods i 0) s (m + i + 1) i outs₁ outs₂ r → Sang hertz interval behind periods notes s m (i + 1) outs outs₂ r
  unfolding sing_after sing_outs
  sang-more {i} {outs₁} {outs₂} {b} {r} l a d =
      let z = add-one i in
      let at : ℕ → ℤ = λ n. input_at n -ℤ pos behind in
      let next : ℕ → ℤ → Voiced = λ n. sing_next hertz interval n (at n) periods notes s m i in
      let whole : Sang hertz interval behind periods notes s m (suc i) outs outs₂ r =
      record {
        near = d.near;
        position = λ n. ap (λ (v : ℤ). (next n v).position) (a.position n) ∙ d.position (n + i) ∙ ap (λ (k : ℕ). input_at k -ℤ pos r) (sym (add-suc n i));
        out =
            λ n. d.out (n + i)
            ∙ (λ j. set (a.out n j) i (next n (sym (a.position n) j)).out)
            ∙ one_more_lem (pos 0) (sing_outs hertz interval n (at n) periods notes s m i) outs i _ (sing_length hertz interval n (at n) periods notes s m i) l
            ∙ ap (λ (k : ℕ). sing_outs hertz interval n (at n) periods notes s m (suc i) ++ drop k outs) z;
      } in
      subst (λ (k : ℕ). Sang hertz interval behind periods notes s m k outs outs₂ r) (sym z) whole

-- and those of a stretch, which have one rate: none yet, and one more beside the same period and note
module _ {rate p n behind : ℕ} {periods notes : List ℕ} {s : List ℤ} {m from : ℕ} {out : List ℤ} where
  pub sang_to_none : behind ≤ farthest → SangTo rate p n behind periods notes s m from out out from behind
  sang_to_none near = record { near = near; same = refl; sang = λ hertz interval first outs l e sang. sang }

  pub sang_to_more : {i b r : ℕ} {out₁ out₂ : List ℤ} → i < longest_block → p ≡ get_or periods i 0 → n ≡ get_or notes i 0 → SangTo rate p n behind periods notes s m from out out₁ i b → Sounded b rate p s (m + i + 1) i out₁ out₂ r
      → SangTo rate p n behind periods notes s m from out out₂ (i + 1) r
  sang_to_more {i} {b} {r} {out₁} {out₂} l same same-note a d =
      record {
        near = d.near;
        same = ap length (d.out 0) ∙ length-set out₁ i _ ∙ a.same;
        sang =
            λ hertz interval first outs k e sang. sang-more hertz interval first periods notes s m outs (omega (arith, k, l)) (a.sang hertz interval first outs k e sang)
            (transport (λ j. Sounded b ((e ∙ (λ h. voice_rate hertz interval (same h) (same-note h))) j) (same j) s (m + i + 1) i out₁ out₂ r) d);
      }
