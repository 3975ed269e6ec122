-- The wrong programs of document 01's list are shut out (`shut_out`).
-- The promise settles what is answered to document 01's whole case, so a program that answers something else on it breaks the promise; counts made up from a block alone break it on one of two tuners.
use Rattle.std.specs.Prelude.{◌≡◌, ℕ, ◌+◌, ◌≤◌, ℤ, pos, neg_ℤ, nat_abs, drop, get_or}
use Rattle.std.proofs.Math.Path.{refl, ap}
use Rattle.std.proofs.Common.{sym, ◌∙◌, subst, length-append, length-take-le, take_at, take-take}
use mathlib.Core.List.{List, [], ◌∷◌, ◌++◌, map}
use native.Mathlib.Omega.{arith}
use Rattle.std.proofs.Math.ListN.{length, take, length-take}
use Rattle.std.proofs.lemmas.List.{take-append-le}
use Rattle.rules.specs.Rules.{silence, heard, step_due, listened, listened_in, no_tone, input_at, cycle_repeated, cycle_dropped, cycles, growth, sample_at, curve, held, through, whole_of, fraction_of, reading, fresh_take, eighth_due, eighths_after, stepped, gives, samples_out, gathered, longest_block}
use Rattle.rules.proofs.Blocks.{gives-length}
use Rattle.rules.proofs.Sane.{tracking_is_not_searching}
use Rattle.history.specs.History.{sample, happened, course_after, given_by}
use Rattle.rules.specs.Facts.{pitched, value_at}
use Rattle.record.specs.Records.{fresh_pitch}
use Rattle.reports.specs.Reports.{figures_of}
use Rattle.record.specs.Records.{heard_after}
use Rattle.record.specs.Kept.{still-silent, silent-right}
use Rattle.tuner.specs.declared.Tuner.{Tuner}
use Rattle.tuner.specs.declared.Answer.{Answer}
use Rattle.tuner.specs.Tuners.{take_of, force_of, Good, fresh_numbers, silent_tuner, outs_beside, parts, kept_outs, Roomy, written, next_number, Verdict, taken, after_block, counted, Took}
use Rattle.tuner.proofs.Verdicts.{verdict-one}
use Rattle.staying.specs.Staying.{default_stays, took-stays, took_number, took-keeps, took-taken}
use Rattle.account.specs.Account.{Call, block, Series, fresh_start, and_then, by-block, course_of, plus, received}
use Rattle.account.proofs.Following.{block-gives}
use Rattle.account.proofs.Keeps.{course_right, series-keeps}
use Rattle.account.specs.Wrong.{Done, Program, RefusesAll, AnswersSilence, CopiesThrough, LeavesAll, PassesTheRest, InventsCounts, first_block, second_block, room, ahead, Tried, AllShutOut}
use Rattle.account.specs.ShutOut.{out_for, start}

-- ---- what the promise says there

-- the samples that stand first of what is kept
front_of : (n : ℕ) (zs a b c : List ℤ) → length zs ≡ n → take n (zs ++ a ++ b ++ c) ≡ zs
front_of n zs a b c e =
    take-append-le n (zs ++ a ++ b) c (omega (arith, length-append (zs ++ a) b, length-append zs a))
    ∙ take-append-le n (zs ++ a) b (omega (arith, length-append zs a))
    ∙ take_at zs a n e

-- of a tuner without voices the first n samples written are the first that it keeps
lead-written : (n chosen : ℕ) (kept ys zs : List ℤ) → chosen ≡ 0 → n ≤ longest_block → n ≤ length kept → zs ∷ [] ≡ written n (parts (1 + chosen) kept) (ys ∷ []) → take n zs ≡ take n kept
unfolding written parts
lead-written n chosen kept ys zs none few long e =
    let plain : zs ∷ [] ≡ written n (parts 1 kept) (ys ∷ []) = e ∙ ap (λ (m : ℕ). written n (parts (1 + m) kept) (ys ∷ [])) none in
    let same = take-take n longest_block kept few in
    ap (λ (l : List (List ℤ)). take n (get_or l 0 [])) plain ∙ take_at (take n (take longest_block kept)) (drop n ys) n (ap length same ∙ length-take-le n kept long) ∙ same

-- a block whose number is 0 by the table is taken
module _ {t t' : Tuner} {k : ℕ} {xs ys zs : List ℤ} {a : Answer} (v : Verdict t k xs (ys ∷ []) 0) (p : Took t k xs (ys ∷ []) [] t' a (zs ∷ []) []) where
  is_zero : a.number ≡ 0
  is_zero = sym (took_number p) ∙ verdict-one p.verdict v

  pub gives_it : a.number ≤ 1
  gives_it = omega (arith, is_zero)

  answer-is : a ≡ counted 0 (length xs) t'.numbers
  answer-is = (took-keeps p gives_it).0 ∙ ap (λ (v : ℕ). counted v (length xs) t'.numbers) is_zero

  pub tuner-is : t' ≡ after_block t k xs []
  tuner-is = (took-taken p is_zero).0

  as_taken : Took t k xs (ys ∷ []) [] t' (counted 0 (length xs) t'.numbers) (zs ∷ []) []
  as_taken = subst (λ (b : Answer). Took t k xs (ys ∷ []) [] t' b (zs ∷ []) []) answer-is p

  repeated-is : a.repeated ≡ (after_block t k xs []).numbers.last.repeated
  repeated-is = ap (λ (b : Answer). b.repeated) answer-is ∙ ap (λ (u : Tuner). u.numbers.last.repeated) tuner-is

  -- without voices it writes what the rules give
  out-is : t.numbers.chosen ≡ 0 → length xs ≤ longest_block → take (length xs) zs ≡ samples_out (gives (force_of t) (take_of t) xs)
  unfolding after_block
  out-is none few =
      let n = length xs in
      let out = samples_out (gives (force_of t) (take_of t) xs) in
      let long = gives-length (force_of t) (take_of t) xs in
      let front : take n (outs_beside t xs) ≡ out = front_of n out _ _ _ long in
      lead-written n t.numbers.chosen (outs_beside t xs) ys zs none few (omega (arith, ap length front, long, length-take n (outs_beside t xs))) ((took-keeps p gives_it).1 ∙ ap (λ (u : Tuner). written n (kept_outs u) (ys ∷ [])) tuner-is) ∙ front

-- what the rules give for the samples of a block, after any calls: that of the course so far
gives_course : {t : Tuner} (xs : List ℤ) → (cs : List Call) → Series cs t → gives (force_of t) (take_of t) xs ≡ given_by (course_of (received cs)) (map sample xs)
gives_course {t} xs cs h = let k = series-keeps h in ap (λ (u : Tuner). gives (force_of u) (take_of u) xs) k.is ∙ block-gives (course_right k) t xs

good_start : Good start
good_start = default_stays.0

first_taken : Verdict start 0 first_block (room ∷ []) 0
unfolding silent_tuner fresh_numbers Roomy parts
first_taken = taken (record { good = good_start; nonempty = omega arith; most = omega arith; room = (omega arith, tt) }) (λ l. omega (arith, l.0)) refl (omega arith)

-- a tuner without voices asks for room in the lead's output alone
lead-room : (kept : List ℤ) (m : ℕ) → m ≡ 0 → Roomy 3 (parts (1 + m) kept) (room ∷ [])
unfolding Roomy parts
lead-room kept m e = subst (λ (m : ℕ). Roomy 3 (parts (1 + m) kept) (room ∷ [])) (sym e) (omega arith, tt)

-- what comes after the first block
second-taken : {t : Tuner} → Good t → t ≡ after_block start 0 first_block [] → Verdict t 1 second_block (room ∷ []) 0
unfolding silent_tuner fresh_numbers after_block heard_after
second-taken {t} g e =
    let size : t.numbers.last.length ≡ 3 = ap (λ (u : Tuner). u.numbers.last.length) e in
    let last : t.numbers.last.number ≡ 0 = ap (λ (u : Tuner). u.numbers.last.number) e in
    let count : t.numbers.count ≡ 3 = ap (λ (u : Tuner). u.numbers.count) e in
    let none : t.numbers.chosen ≡ 0 = ap (λ (u : Tuner). u.numbers.chosen) e in
    taken (record { good = g; nonempty = omega arith; most = omega arith; room = lead-room t.outs t.numbers.chosen none }) (λ l. omega (arith, l.1)) (sym (ap next_number e)) (omega arith)

case_out : (out_for [] first_block ≡ pos 0 ∷ pos 0 ∷ pos 0 ∷ []) × (out_for first_block second_block ≡ pos 0 ∷ pos 1000 ∷ neg_ℤ (pos 1000) ∷ [])
unfolding fresh_take silence heard course_after given_by happened samples_out stepped eighth_due eighths_after no_tone listened listened_in growth cycle_repeated cycle_dropped cycles input_at reading curve held through sample_at whole_of fraction_of
case_out = (refl, refl)

-- one cycle is repeated in the first block to `ahead`, and none in the first block to a fresh tuner
cycles-counted : ((after_block ahead 0 first_block []).numbers.last.repeated ≡ 1) × ((after_block start 0 first_block []).numbers.last.repeated ≡ 0)
unfolding after_block ahead take_of silent_tuner fresh_numbers fresh_pitch no_tone figures_of gathered gives stepped eighth_due eighths_after step_due listened listened_in growth cycle_repeated cycle_dropped cycles input_at
cycles-counted = (refl, refl)

good-ahead : Good ahead
unfolding ahead silent_tuner fresh_numbers silence
good-ahead =
    record {
      layout = refl;
      lead =
          record {
            settings = good_start.lead.settings;
            hertz = good_start.lead.hertz;
            keyboard = good_start.lead.keyboard;
            heard = good_start.lead.heard;
            pitch =
                record {
                  flag = omega arith;
                  pitch =
                      record {
                        tone = pitched (omega arith) (omega arith) (omega arith) (omega arith) (omega arith) (omega arith);
                        lags = record { from = omega arith; upto = omega arith; last_from = omega arith; last_upto = omega arith };
                        while_searching = λ e. absurd (tracking_is_not_searching e);
                      };
                  sums = λ e. silent-right 16 8 (still-silent 1764 silence (λ k. refl));
                };
            head = good_start.lead.head;
            last = good_start.lead.last;
          };
      listed = good_start.listed;
      list = good_start.list;
      voices = good_start.voices;
    }

ahead-taken : Verdict ahead 0 first_block (room ∷ []) 0
unfolding ahead silent_tuner fresh_numbers Roomy parts
ahead-taken = taken (record { good = good-ahead; nonempty = omega arith; most = omega arith; room = (omega arith, tt) }) (λ l. omega (arith, l.0)) refl (omega arith)

-- equal lists have equal samples at a place, but for the sign
alike : {xs ys : List ℤ} (i : ℕ) → xs ≡ ys → nat_abs (value_at xs i) ≡ nat_abs (value_at ys i)
alike i e = ap (λ (xs : List ℤ). nat_abs (value_at xs i)) e

module _ {q : Program} (tried : Tried q) where
  abbrev one : Done
  one = q start 0 first_block room

  abbrev two : Done
  two = q one.tuner 1 second_block room

  first-tuner : one.tuner ≡ after_block start 0 first_block []
  first-tuner = tuner-is first_taken tried.first

  next-taken : Verdict one.tuner 1 second_block (room ∷ []) 0
  next-taken = second-taken (took-stays good_start default_stays.1 tried.first).0 first-tuner

  -- what was written is the rules'
  first-series : Series (block 0 first_block (room ∷ []) [] (counted 0 3 one.tuner.numbers) (one.out ∷ []) [] ∷ []) one.tuner
  first-series = and_then fresh_start (by-block (as_taken first_taken tried.first))

  first-written : take 3 one.out ≡ pos 0 ∷ pos 0 ∷ pos 0 ∷ []
  unfolding received course_after silent_tuner fresh_numbers
  first-written = out-is first_taken tried.first refl (omega arith) ∙ ap samples_out (gives_course first_block [] fresh_start) ∙ case_out.0

  second-written : take 3 two.out ≡ pos 0 ∷ pos 1000 ∷ neg_ℤ (pos 1000) ∷ []
  unfolding received plus silent_tuner fresh_numbers after_block
  second-written =
      out-is next-taken tried.second (ap (λ (u : Tuner). u.numbers.chosen) first-tuner) (omega arith) ∙ ap samples_out (gives_course second_block _ first-series) ∙ case_out.1

  -- ---- each of the list

  not_refused : RefusesAll q → ⊥
  not_refused all = let h = all start 0 first_block room in omega (arith, gives_it first_taken tried.first)

  not_silent : AnswersSilence q → ⊥
  not_silent all = let e = alike 1 (sym second-written ∙ all one.tuner 1 second_block room (gives_it next-taken tried.second)) in omega arith

  not_copied : CopiesThrough q → ⊥
  not_copied all = let e = alike 0 (sym first-written ∙ all start 0 first_block room (gives_it first_taken tried.first)) in omega arith

  not_left : LeavesAll q → ⊥
  unfolding after_block heard_after silent_tuner fresh_numbers
  not_left all = let e = ap (λ (u : Tuner). u.numbers.count) (sym first-tuner ∙ (all start 0 first_block room).1) in omega arith

  not_passed : PassesTheRest q → ⊥
  unfolding after_block
  not_passed all =
      let size : one.tuner.numbers.last.length ≡ 3 = ap (λ (u : Tuner). u.numbers.last.length) first-tuner in
      let e = alike 0 (sym second-written ∙ all one.tuner 1 second_block room (omega arith) (gives_it next-taken tried.second)) in omega arith

  not_invented : InventsCounts q → ⊥
  not_invented (r, d, all) =
      let here = (all start 0 first_block room (gives_it first_taken tried.first)).0 in
      let there = (all ahead 0 first_block room (gives_it ahead-taken tried.level)).0 in
      omega (arith, here, there, repeated-is first_taken tried.first, repeated-is ahead-taken tried.level, cycles-counted.0, cycles-counted.1)

pub shut_out : AllShutOut
shut_out q tried =
    record {
      refuses_all = not_refused tried;
      answers_silence = not_silent tried;
      copies_through = not_copied tried;
      leaves_all = not_left tried;
      passes_the_rest = not_passed tried;
      invents_counts = not_invented tried;
    }
