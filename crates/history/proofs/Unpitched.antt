-- Without a period a take has no tone, and what it gives is what came, four samples late, whatever settings and keyboard do meanwhile:
-- at each sample the one heard four samples ago is given (`stepped_late`), and so the newest four and what is to come are what will be given.
use Rattle.std.specs.Prelude.{◌≡◌, refl, List, [], ◌∷◌, ℕ, suc, length, take}
use Rattle.rules.specs.Rules.{silence, heard, fresh_take, stepped, samples_out}
use Rattle.rules.specs.Facts.{value_at, SixteenBits}
use Rattle.rules.proofs.Hearing.{all-heard}
use Rattle.rules.specs.Unpitched.{Clear}
use Rattle.rules.proofs.Unpitched.{fresh-clear, stepped-clear, fresh-level, stepped-level, stepped_late}
use Rattle.history.specs.History.{Event, sample, new-settings, byte, Course, fresh_course, force_at, happened, course_after, given_by, samples_in, WithoutPeriodTheorem, NonePitched, FourLate}
use Rattle.history.specs.Unpitched.{Late, waiting}

-- ---- the tone
course_clear : (c : Course) (es : List Event) → Clear c.take.pitch → Clear (course_after c es).take.pitch
unfolding course_after happened
course_clear c [] h = h
course_clear c (sample x ∷ es) h = course_clear (happened c (sample x)) es (stepped-clear (force_at c) c.take h x)
course_clear c (new-settings s ∷ es) h = course_clear (happened c (new-settings s)) es h
course_clear c (byte b ∷ es) h = course_clear (happened c (byte b)) es h

pub without_period : WithoutPeriodTheorem
without_period hertz s es = (course_clear (fresh_course hertz s) es fresh-clear).tone

late_from : (c : Course) (es : List Event) → Late c.take → ((i : ℕ) → SixteenBits (value_at (samples_in es) i)) → NonePitched (given_by c es)
    → samples_out (given_by c es) ≡ take (length (samples_in es)) (waiting c.take.sound (samples_in es))
unfolding given_by samples_in samples_out NonePitched happened stepped heard
late_from c [] h b n = refl
late_from c (sample x ∷ es) h b n =
    let t = c.take in
    let next : Late (stepped (force_at c) t x).next =
    record {
      clear = stepped-clear (force_at c) t h.clear x;
      level = stepped-level (force_at c) t h.clear h.level x n.0;
      fits = all-heard SixteenBits h.fits (b 0);
    } in
    λ i. stepped_late (force_at c) t h.clear h.level x n.0 (h.fits 3) i ∷ late_from (happened c (sample x)) es next (λ k. b (suc k)) n.1 i
late_from c (new-settings s ∷ es) h b n = late_from (happened c (new-settings s)) es h b n
late_from c (byte k ∷ es) h b n = late_from (happened c (byte k)) es h b n

fresh_late : Late fresh_take
unfolding fresh_take silence
fresh_late = record { clear = fresh-clear; level = fresh-level; fits = λ k. (record { le = tt }, record { le = tt }) }

pub four_late_lem : FourLate
unfolding fresh_take silence
four_late_lem hertz s es b n = late_from (fresh_course hertz s) es fresh_late b n
