-- A good tuner is never answered 9, and every series of calls leaves a good tuner.
-- The last block sent again, whatever was refused or set in between, gives the same: no such call touches the last block, its samples, the kept outputs or the list.
use Rattle.std.specs.Prelude.{◌≡◌, Bool, List, [], ◌∷◌, ◌++◌, map, ℕ, zero, suc, ◌+◌, ◌-◌, ◌*◌, ◌≤◌, ◌<◌, eqb, leb, ℤ, length, take, drop}
use Rattle.std.proofs.Math.Path.{refl, ap}
use Rattle.std.proofs.Common.{sym, ◌∙◌, subst, arith, ne_eqb, length-drop, drop-drop, drop_at, take_at, length-take-le}
use Rattle.whole.specs.Tests.{cond_case, cond_no}
use Rattle.rules.specs.declared.Settings.{Settings}
use Rattle.rules.specs.Rules.{refuse, is_rate, settings_number, start_number}
use Rattle.rules.proofs.Ranges.{settings_not_nine}
use Rattle.rules.specs.Facts.{keeping}
use Rattle.pitch.specs.declared.Pitch.{Pitch as KeptPitch}
use Rattle.meters.specs.declared.Meter.{Meter}
use Rattle.meters.specs.Meters.{Exact}
use Rattle.singers.specs.Singers.{all_in_range, intervals_number}
use Rattle.record.specs.Records.{heard_after}
use Rattle.tuner.specs.declared.Last.{Last}
use Rattle.tuner.specs.declared.Tuner.{Tuner}
use Rattle.tuner.specs.declared.Answer.{Answer}
use Rattle.tuner.specs.Tuners.{after_block, parts, kept_outs, Roomy, written, last_samples, Fits, Verdict, record_out_of_range, given-again, counted, Took, store_fits, begin_number, Done, with_keys, Metered, read}
use Rattle.tuner.proofs.Verdicts.{verdict-one, verdict-fits}
use Rattle.tuner.proofs.Outputs.{room_after as after-room}
use Rattle.staying.specs.Staying.{Stays, default_stays, own_number, took-stays, changed-stays, keyed_stays, reset-stays, started_stays, took_number, took-keeps, took-taken, untaken_unchanged}
use Rattle.nights.specs.declared.NightAnswer.{NightAnswer}
use Rattle.nights.specs.Night as Night
use Rattle.nights.specs.Night.{OneByOne, all_done, and_on, refused, added_by, Untouched, Nighted}
use Rattle.nights.specs.Ones.{nighted_stays}
use Rattle.account.specs.Account.{Call, Leaves, by-start, by-change, by-block, by-night, by-midi, by-reset, by-meter, Series, fresh_start, and_then, TakesNone, Meanwhile, nothing, and_meanwhile, again, GivenAgain, SentAgain, NotNine, NeverNine}
use Rattle.account.specs.Calls.{SameLast}

-- ---- every call keeps a good tuner good
pub call_stays : {t t' : Tuner} {c : Call} → Stays t → Leaves t c t' → Stays t'
call_stays k (by-start p) = started_stays p
call_stays k (by-change {s = s} p) = changed-stays k.0 k.1 s p
call_stays k (by-block p) = took-stays k.0 k.1 p
call_stays k (by-night p) = nighted_stays k.0 k.1 p
call_stays k (by-midi {bytes = bytes} p) = keyed_stays k.0 k.1 bytes p
call_stays k (by-reset {store = store} p) = reset-stays k.0 k.1 store p
call_stays k (by-meter p) = k

pub series-stays : {cs : List Call} {t : Tuner} → Series cs t → Stays t
series-stays fresh_start = default_stays
series-stays (and_then h p) = call_stays (series-stays h) p

-- ---- never 9

refused_inexact : {hertz : ℕ} {v : KeptPitch} → Exact hertz v Meter.Refused → ⊥
refused_inexact = elim [ ]

-- a refusal with another number, and what the tests after it say
refuse_not : (number : ℕ) (passed : Bool) (later : ℕ) → (number ≡ 9 → ⊥) → (later ≡ 9 → ⊥) → refuse number passed later ≡ 9 → ⊥
refuse_not number passed later n l = cond_case passed later number (λ (v : ℕ). v ≡ 9 → ⊥) (λ e. l) (λ e. n)

begin_not_nine : (hertz : ℕ) (s : Settings) (listed : ℕ) (zs : List ℤ) (n : ℕ) → begin_number hertz s listed zs n ≡ 9 → ⊥
unfolding begin_number start_number intervals_number
begin_not_nine hertz s listed zs n =
    let own : start_number hertz s ≡ 9 → ⊥ = refuse_not 16 (is_rate hertz) (settings_number s) (λ e. omega arith) (settings_not_nine s) in
    cond_case (eqb (start_number hertz s) 0) (refuse 17 (store_fits listed n) (intervals_number zs)) (start_number hertz s) (λ (v : ℕ). v ≡ 9 → ⊥)
    (λ e. refuse_not 17 (store_fits listed n) (intervals_number zs) (λ e. omega arith)
    (refuse_not 18 (all_in_range zs) (refuse 19 (leb (length zs) 3) 0) (λ e. omega arith) (refuse_not 19 (leb (length zs) 3) 0 (λ e. omega arith) (λ e. omega arith))))
    (λ e. own)

module _ {t : Tuner} (k : Stays t) where
  took_not_nine : {n : ℕ} {xs : List ℤ} {os os' : List (List ℤ)} {store store' : List ℕ} {t' : Tuner} {a : Answer} → Took t n xs os store t' a os' store' → a.number ≡ 9 → ⊥
  took_not_nine {n} {xs} {os} p e = nine (subst (Verdict t n xs os) (took_number p ∙ e) p.verdict)
    where
      nine : {n : ℕ} {xs : List ℤ} {os : List (List ℤ)} → Verdict t n xs os 9 → ⊥
      nine (record_out_of_range h) = h k.0

  done_not_nine : {own v : ℕ} {taken t' : Tuner} → (own ≡ 9 → ⊥) → Done own t taken t' v → v ≡ 9 → ⊥
  done_not_nine n p e = n (sym (own_number k.0 k.1 p.number) ∙ e)

  meter_not_refused : {m : Meter} → Metered t m → m ≡ Meter.Refused → ⊥
  meter_not_refused (record_out_of_range n x) e = n k.0
  meter_not_refused (read h x shown) e = refused_inexact (subst (Exact t.numbers.hertz t.numbers.pitch) e shown)

added-number : (v : ℕ) (n : NightAnswer) (k : ℕ) (a : Answer) → (v ≡ 9 → ⊥) → (n.number ≡ 9 → ⊥) → (added_by v n k a).number ≡ 9 → ⊥
unfolding added_by
added-number zero n k a h m = m
added-number (suc zero) n k a h m = m
added-number (suc (suc v)) n k a h m = h

singly_not_nine : {t t' : Tuner} {k : ℕ} {n n' : NightAnswer} {xss os ps : List (List ℤ)} {store s : List ℕ} → Stays t → (n.number ≡ 9 → ⊥) → OneByOne t k n xss os store t' n' ps s → n'.number ≡ 9 → ⊥
singly_not_nine g m all_done = m
singly_not_nine {k = k} {n} g m (and_on {a = a} p l r) = singly_not_nine (took-stays g.0 g.1 p) (added-number a.number n k a (took_not_nine g p) m) r
singly_not_nine {k = k} {n} g m (refused {a = a} p l) = added-number a.number n k a (took_not_nine g p) m

untouched_not : {v : ℕ} {t t' : Tuner} {os ps : List (List ℤ)} {store s : List ℕ} {a : NightAnswer} → (v ≡ 9 → ⊥) → Untouched v t os store t' a ps s → a.number ≡ 9 → ⊥
untouched_not h u e = h (sym (ap (λ (n : NightAnswer). n.number) u.answer) ∙ e)

night_not_nine : {t t' : Tuner} {k size : ℕ} {xs : List ℤ} {os ps : List (List ℤ)} {store s : List ℕ} {a : NightAnswer} → Stays t → Nighted t k size xs os store t' a ps s → a.number ≡ 9 → ⊥
night_not_nine g (Night.record_out_of_range n u) = absurd (n g.0)
night_not_nine g (Night.size_out_of_range h z u) = untouched_not (λ e. omega arith) u
night_not_nine g (Night.output_short h z m r u) = untouched_not (λ e. omega arith) u
night_not_nine g (Night.one_by_one h z m r o) = singly_not_nine g (λ e. omega arith) o

pub call_not_nine : {t t' : Tuner} {c : Call} → Stays t → Leaves t c t' → NotNine c
unfolding NotNine
call_not_nine k (by-start {hertz} {s} {listed} {zs} {store} p) = λ e. begin_not_nine hertz s listed zs (length store) (sym p.number ∙ e)
call_not_nine k (by-change {s = s} p) = done_not_nine k (settings_not_nine s) p
call_not_nine k (by-block p) = took_not_nine k p
call_not_nine k (by-night p) = night_not_nine k p
call_not_nine k (by-midi p) = done_not_nine k (λ e. omega arith) p
call_not_nine {t} k (by-reset {store = store} p) = done_not_nine k (refuse_not 17 (store_fits t.numbers.listed (length store)) 0 (λ e. omega arith) (λ e. omega arith)) p
call_not_nine k (by-meter p) = meter_not_refused k p

pub never_nine : NeverNine
never_nine cs t t' c h p = call_not_nine (series-stays h) p

same_self : {u : Tuner} → SameLast u u
same_self = record { count = refl; heard = refl; outs = refl; last = refl; chosen = refl; list = refl }

same_kept : {u w w' : Tuner} → SameLast u w → w' ≡ w → SameLast u w'
same_kept {u} k e = subst (SameLast u) (sym e) k

done-same : {own v : ℕ} {u w taken w' : Tuner} → SameLast u w → SameLast u taken → Done own w taken w' v → SameLast u w'
done-same {v = v} {u} {w} {taken} k m p = rw p.tuner (cond_case (eqb v 0) taken w (SameLast u) (λ e. m) (λ e. k))

done-kept : {own v : ℕ} {w taken w' : Tuner} → 0 < v → Done own w taken w' v → w' ≡ w
done-kept {v = v} {w} {taken} h p = p.tuner ∙ cond_no taken w (ne_eqb v 0 (λ z. omega arith))

-- a night that took none leaves the tuner
added-taken : (v : ℕ) (n : NightAnswer) (k : ℕ) (a : Answer) → n.taken ≤ (added_by v n k a).taken
unfolding added_by
added-taken zero n k a = omega arith
added-taken (suc zero) n k a = omega arith
added-taken (suc (suc v)) n k a = omega arith

added_none : (v : ℕ) (n : NightAnswer) (k : ℕ) (a : Answer) → (added_by v n k a).taken ≤ n.taken → 0 < v
unfolding added_by
added_none zero n k a h = absurd (omega arith)
added_none (suc v) n k a h = omega arith

pub singly_taken : {t t' : Tuner} {k : ℕ} {n n' : NightAnswer} {xss os ps : List (List ℤ)} {store s : List ℕ} → OneByOne t k n xss os store t' n' ps s → n.taken ≤ n'.taken
singly_taken all_done = omega arith
singly_taken {k = k} {n} (and_on {a = a} p l r) = omega (arith, added-taken a.number n k a, singly_taken r)
singly_taken {k = k} {n} (refused {a = a} p l) = added-taken a.number n k a

singly_none : {t t' : Tuner} {k : ℕ} {n n' : NightAnswer} {xss os ps : List (List ℤ)} {store s : List ℕ} → OneByOne t k n xss os store t' n' ps s → n'.taken ≤ n.taken → t' ≡ t
singly_none all_done h = refl
singly_none {k = k} {n} (and_on {a = a} p l r) h =
    singly_none r (omega (arith, added-taken a.number n k a)) ∙ (untaken_unchanged p (added_none a.number n k a (omega (arith, singly_taken r)))).0
singly_none {k = k} {n} (refused {a = a} p l) h = (untaken_unchanged p (omega arith)).0

night-none : {t t' : Tuner} {k size : ℕ} {xs : List ℤ} {os ps : List (List ℤ)} {store s : List ℕ} {a : NightAnswer} → Nighted t k size xs os store t' a ps s → a.taken ≡ 0 → t' ≡ t
night-none (Night.record_out_of_range n u) h = u.tuner
night-none (Night.size_out_of_range g z u) h = u.tuner
night-none (Night.output_short g z m r u) h = u.tuner
night-none (Night.one_by_one g z m r o) h = singly_none o (omega arith)

pub meanwhile_same : {u w : Tuner} → Meanwhile u w → SameLast u w
unfolding TakesNone with_keys
meanwhile_same nothing = same_self
meanwhile_same (and_meanwhile m (by-start p) n) = absurd n
meanwhile_same (and_meanwhile m (by-change p) n) = let k = meanwhile_same m in done-same k (record { count = k.count; heard = k.heard; outs = k.outs; last = k.last; chosen = k.chosen; list = k.list }) p
meanwhile_same (and_meanwhile m (by-block p) n) = same_kept (meanwhile_same m) (untaken_unchanged p n).0
meanwhile_same (and_meanwhile m (by-night p) n) = same_kept (meanwhile_same m) (night-none p n)
meanwhile_same (and_meanwhile m (by-midi p) n) = let k = meanwhile_same m in done-same k (record { count = k.count; heard = k.heard; outs = k.outs; last = k.last; chosen = k.chosen; list = k.list }) p
meanwhile_same (and_meanwhile m (by-reset p) n) = same_kept (meanwhile_same m) (done-kept n p)
meanwhile_same (and_meanwhile m (by-meter p) n) = meanwhile_same m

pub meanwhile_stays : {u w : Tuner} → Stays u → Meanwhile u w → Stays w
meanwhile_stays k nothing = k
meanwhile_stays k (and_meanwhile m p n) = call_stays (meanwhile_stays k m) p

-- ---- the last block again

-- what is written first is what is kept first
pub starts-kept : (n m : ℕ) (zs : List ℤ) (os : List (List ℤ)) → n ≤ 512 → 512 * m ≤ length zs → Roomy n (parts m zs) os → map (take n) (take m (written n (parts m zs) os)) ≡ map (take n) (parts m zs)
unfolding parts Roomy written
starts-kept n zero zs os few h r = refl
starts-kept n (suc m) zs [] few h r = absurd r
starts-kept n (suc m) zs (o ∷ os) few h r =
    let here = length-take-le 512 zs (omega arith) in
    λ i. take_at (take n (take 512 zs)) (drop n o) n (length-take-le n (take 512 zs) (omega (arith, here))) i ∷ starts-kept n m (drop 512 zs) os few (omega (arith, length-drop 512 zs)) r.1 i

-- block k of the samples xs is taken, and sent again to a tuner with the same last block
module _ {t u : Tuner} {k : ℕ} {xs : List ℤ} {os ps : List (List ℤ)} {store store₁ : List ℕ} {a : Answer} (g : Stays t) (p : Took t k xs os store u a ps store₁) (first : a.number ≡ 0) where
  taken-fits : Fits t xs os
  taken-fits = verdict-fits p.verdict (omega (arith, took_number p))

  taken_is : u ≡ after_block t k xs store
  taken_is = (took-taken p first).0

  room_after : Roomy (length xs) (kept_outs u) os
  unfolding after_block
  room_after =
      after-room t u.outs os (length xs) u.numbers.chosen (length xs) refl (ap (λ (v : Tuner). v.numbers.chosen) taken_is) taken-fits.room

  module _ {w : Tuner} (gw : Stays w) (same : SameLast u w) where
    last-length : w.numbers.last.length ≡ length xs
    unfolding after_block
    last-length = ap (λ (v : Last). v.length) same.last ∙ ap (λ (v : Tuner). v.numbers.last.length) taken_is

    last-number : w.numbers.last.number ≡ k
    unfolding after_block
    last-number = ap (λ (v : Last). v.number) same.last ∙ ap (λ (v : Tuner). v.numbers.last.number) taken_is

    last-heard : w.heard ≡ keeping t.heard xs
    unfolding after_block heard_after
    last-heard = same.heard ∙ ap (λ (v : Tuner). v.heard) taken_is

    last_are : xs ≡ last_samples w
    last_are =
        let all : length xs + (1764 - length xs) ≡ 1764 = omega (arith, taken-fits.most) in
        sym
        ((λ i. drop (1764 - last-length i) (last-heard i))
        ∙ drop-drop (1764 - length xs) (length xs) (t.heard ++ xs)
        ∙ ap (λ (n : ℕ). drop n (t.heard ++ xs)) all
        ∙ drop_at t.heard xs 1764 g.1.heard)

    verdict-again : {os₂ : List (List ℤ)} → Roomy (length xs) (kept_outs w) os₂ → Verdict w k xs os₂ 1
    verdict-again r =
        given-again (record { good = gw.0; nonempty = taken-fits.nonempty; most = taken-fits.most; room = r })
        (omega (arith, last-length, taken-fits.nonempty), sym last-number) last_are

    kept_same : kept_outs w ≡ kept_outs u
    kept_same = λ i. parts (1 + same.chosen i) (same.outs i)

    pub given_back : {w' : Tuner} {b : Answer} {os₂ qs : List (List ℤ)} {store₂ store₃ : List ℕ} → Roomy (length xs) (kept_outs w) os₂ → Took w k xs os₂ store₂ w' b qs store₃ → GivenAgain (length xs) w w' a b ps qs store₂ store₃
    given_back {w'} {b} {os₂} {qs} room q =
        let one : b.number ≡ 1 = sym (took_number q) ∙ verdict-one q.verdict (verdict-again room) in
        let before = took-keeps p (omega arith) in
        let now = took-keeps q (omega arith) in
        let stays = untaken_unchanged q (omega arith) in
        let n = length xs in
        let left = took-stays g.0 g.1 p in
        let long : 512 * (1 + u.numbers.chosen) ≤ length u.outs = omega (arith, left.1.outs, left.0.voices.few) in
        let room₂ : Roomy n (kept_outs u) os₂ = subst (λ (ks : List (List ℤ)). Roomy n ks os₂) kept_same room in
        let wrote : qs ≡ written n (kept_outs u) os₂ = now.1 ∙ (λ i. written n ((ap kept_outs stays.0 ∙ kept_same) i) os₂) in
        let many = same.chosen in
        record {
          answer =
              now.0 ∙ (λ i. counted (one i) n (stays.0 i).numbers)
              ∙ (λ i. record { number = 1; written = n; repeated = (same.last i).repeated; dropped = (same.last i).dropped; pitched = (same.last i).pitched; strayed = (same.last i).strayed; rows = (same.list i).rows; left = (same.list i).left })
              ∙ sym (ap again before.0);
          unchanged = stays.0;
          rows = stays.1;
          samples =
              (λ i. map (take n) (take (1 + many i) (wrote i)))
              ∙ starts-kept n (1 + u.numbers.chosen) u.outs os₂ taken-fits.most long room₂
              ∙ sym
              ((λ i. map (take n) (take (1 + many i) (before.1 i)))
              ∙ starts-kept n (1 + u.numbers.chosen) u.outs os taken-fits.most long room_after);
        }

pub again-holds : SentAgain
again-holds cs t u w w' k xs os ps os₂ qs store store₁ store₂ store₃ a b h p z m room q =
    let g = series-stays h in
    given_back g p z (meanwhile_stays (took-stays g.0 g.1 p) m) (meanwhile_same m) room q
