-- The takes follow their histories: line by line the tuner is the one that a series of calls leaves, and what a block gives is what the rules give after all that was received in its take.
use Rattle.std.specs.Prelude.{◌≡◌, refl, cond, ℕ, ◌<◌, eqb, ℤ, take}
use Rattle.std.proofs.Math.Path.{sym, ap}
use Rattle.std.proofs.Common.{subst, ◌∙◌, arith, eq-eqb, ne_eqb, eqb-true}
use mathlib.Core.List.{List, [], ◌∷◌, ◌++◌, map, append-nil}
use Rattle.std.proofs.lemmas.Bool.{eqb-false}
use Rattle.std.proofs.Math.Seq.{take-length}
use Rattle.whole.specs.Tests.{by, cond_yes, cond_no}
use Rattle.rules.specs.declared.Settings.{Settings}
use Rattle.rules.specs.Rules.{Given, gives, defaults, cd_rate}
use Rattle.history.specs.History.{Event, sample, new-settings, byte, fresh_course, given_by}
use Rattle.history.proofs.Courses.{given_by-append, given-bytes}
use Rattle.tuner.specs.declared.Tuner.{Tuner}
use Rattle.tuner.specs.declared.Answer.{Answer}
use Rattle.tuner.specs.Tuners.{take_of, force_of, default_tuner, Took, Done, Changed}
use Rattle.staying.specs.Staying.{took-keeps, untaken_unchanged}
use Rattle.account.specs.Account.{Call, Leaves, by-start, by-change, by-block, by-midi, by-reset, Series, fresh_start, and_then, Received, begun, course_of, with_events, with_samples, counted_by, plus, received}
use Rattle.account.proofs.Following.{block-gives}
use Rattle.account.proofs.Keeps.{course_right, series-keeps}
use Rattle.account.proofs.Holds.{holds}
use Rattle.lines.specs.Lines.{Line, with_four, with_mode, with_channel, Desk, begins, Said, begun as said-begun, not_begun, changed, taken, begun-again, mode-changed, channel-changed, keyed, not_read}
use Rattle.reports.specs.Reports.{report_of}
use Rattle.reporting.specs.Reporting.{Takes, brought_by, with_given, takes_after, Reported, no_more, last_line, one_byte, line-ends}
use Rattle.reckoned.specs.Reckoned.{Past, fresh, given_in, with_more, pasts_by, pasts_after, ReportTheorem}
use Rattle.reckoned.specs.Follows.{Ends, Follows, past_of}

-- ---- what a block gives, over all that was received
block-given : {cs : List Call} {t : Tuner} → Series cs t → (xs : List ℤ) → given_by (course_of (received cs)) (map sample xs) ≡ gives (force_of t) (take_of t) xs
block-given {t = t} h xs = let k = series-keeps h in sym (ap (λ (u : Tuner). gives (force_of u) (take_of u) xs) k.is ∙ block-gives (course_right k) t xs)

-- what was received of a block that is taken is all of it
block-past : {t t' : Tuner} {k : ℕ} {xs : List ℤ} {os os' : List (List ℤ)} {store store' : List ℕ} {a : Answer} (r : Received) → Took t k xs os store t' a os' store' → a.number ≡ 0
    → past_of (with_samples r 0 a.written xs (counted_by a) os') ≡ past_of (with_events r (map sample xs))
block-past {xs = xs} {a = a} r p z =
    let all : take a.written xs ≡ xs = ap (λ (b : Answer). take b.written xs) (took-keeps p (omega arith)).0 ∙ take-length xs in
    ap (λ (l : List ℤ). record { hertz = r.hertz; settings = r.settings; events = r.events ++ map sample l }) all

-- ---- a take goes on, or begins
module _ {t t' : Tuner} {takes : Takes} {ps : List Past} (f : Follows t takes ps) {c : Call} (leaves : Leaves t c t') where
  abbrev r : Received
  r = received f.calls

  goes : (es : List Event) {gs : List Given} → past_of (received (c ∷ f.calls)) ≡ past_of (with_events r es) → given_by (course_of r) es ≡ gs → Follows t' (with_given gs takes) (with_more es ps)
  unfolding with_given with_more
  goes es {gs} e g =
      record {
        calls = c ∷ f.calls;
        series = and_then f.series leaves;
        older = f.older;
        pasts = ap (with_more es) f.pasts ∙ ap (λ (p : Past). p ∷ f.older) (sym e);
        given =
            ap (with_given gs) (f.given ∙ ap (map given_in) f.pasts)
            ∙ ap (λ (l : List Given). l ∷ map given_in f.older) (ap (λ (l : List Given). given_in (past_of r) ++ l) (sym g) ∙ sym (given_by-append (fresh_course r.hertz r.settings) r.events es))
            ∙ sym (ap (λ (l : List Past). map given_in (with_more es l)) f.pasts);
      }

  anew : (hertz : ℕ) (s : Settings) → past_of (received (c ∷ f.calls)) ≡ fresh hertz s → Follows t' ([] ∷ takes) (fresh hertz s ∷ ps)
  unfolding given_by
  anew hertz s e =
      record {
        calls = c ∷ f.calls;
        series = and_then f.series leaves;
        older = ps;
        pasts = ap (λ (p : Past). p ∷ ps) (sym e);
        given = ap (λ (ts : Takes). [] ∷ ts) f.given;
      }

-- ---- a line that is refused, or taken
nothing-more : (ts : Takes) → with_given [] ts ≡ ts
unfolding with_given
nothing-more [] = refl
nothing-more (newest ∷ older) = ap (λ (l : List Given). l ∷ older) (append-nil newest)

module _ {t t' : Tuner} {takes : Takes} {ps : List Past} (f : Follows t takes ps) where
  refused : t' ≡ t → Follows t' (with_given [] takes) ps
  refused e = subst (λ (ts : Takes). Follows t' ts ps) (sym (nothing-more takes)) (subst (λ (u : Tuner). Follows u takes ps) (sym e) f)

  -- by the number of the answer
  by_number : {qs : List Past} (v : ℕ) → (v ≡ 0 → Follows t' (with_given [] takes) qs) → (0 < v → t' ≡ t) → Follows t' (with_given [] takes) (cond (eqb v 0) qs ps)
  by_number v done left = by (eqb v 0) (λ z. rw z (done (eqb-true v 0 z))) (λ z. let n = eqb-false v 0 z in rw z (refused (left (omega arith))))

left_as : {own v : ℕ} {t taken t' : Tuner} → Done own t taken t' v → 0 < v → t' ≡ t
left_as {v = v} {t} {taken} p h = p.tuner ∙ cond_no taken t (ne_eqb v 0 (λ z. omega arith))

-- a change that is taken
change_then : {t t' : Tuner} {takes : Takes} {ps : List Past} (s : Settings) {v : ℕ} → Follows t takes ps → Changed t s t' v → v ≡ 0 → Follows t' (with_given [] takes) (with_more (new-settings s ∷ []) ps)
unfolding received plus given_by
change_then s {v} f p z =
    let r = received f.calls in
    goes f (by-change p) (new-settings s ∷ []) (ap past_of (cond_yes (with_events r (new-settings s ∷ [])) r (eq-eqb v 0 z))) refl

-- ---- one line
line-follows : {d d' : Desk} {takes : Takes} {ps : List Past} {l : Line} {text : List ℕ} {a : Answer} → Follows d.tuner takes ps → Said d l d' text a → Follows d'.tuner (takes_after d.tuner l a takes) (pasts_after d.tuner l a ps)
unfolding begins brought_by pasts_by received plus
line-follows f (said-begun {hertz = hertz} {s = s} {v = v} p e) =
    let z = eq-eqb v 0 e in
    rw z (anew f (by-start p) hertz s (ap past_of (cond_yes (begun hertz s _ _) (begun cd_rate defaults 0 []) z)))
line-follows f (not_begun {v = v} p n) = rw (ne_eqb v 0 n) (refused f refl)
line-follows {d} f (changed {s = s} {v = v} p) = by_number f v (change_then (with_four d.tuner s) f p) (left_as p)
line-follows {d} f (taken {xs = xs} {a = a} p) =
    let r = received f.calls in
    by (eqb a.number 0)
    (λ z. let e = eqb-true a.number 0 z in
    rw z (goes f (by-block p) (map sample xs) (ap past_of (cond_yes (with_samples r 0 a.written xs (counted_by a) _) r z) ∙ block-past r p e) (block-given f.series xs)))
    (λ z. let n = eqb-false a.number 0 z in rw z (refused f (untaken_unchanged p (omega arith)).0))
line-follows {d} f (begun-again {v = v} p) =
    let r = received f.calls in
    let h = holds f.calls d.tuner f.series in
    by (eqb v 0)
    (λ z. rw z
    (anew f (by-reset {store = d.store} p) d.tuner.numbers.hertz d.tuner.numbers.settings
    (ap past_of (cond_yes (begun r.hertz (course_of r).settings r.listed r.intervals) r z) ∙ sym (λ i. fresh (h.hertz i) (h.settings i)))))
    (λ z. let n = eqb-false v 0 z in rw z (refused f (left_as p (omega arith))))
line-follows {d} f (mode-changed {m = m} {v = v} p) = by_number f v (change_then (with_mode d.tuner m) f p) (left_as p)
line-follows {d} f (channel-changed {c = c} {v = v} p) = by_number f v (change_then (with_channel d.tuner c) f p) (left_as p)
line-follows f (keyed {bytes = bytes} {v = v} p) =
    let r = received f.calls in
    by_number f v (λ z. goes f (by-midi p) (map byte bytes) (ap past_of (cond_yes (with_events r (map byte bytes)) r (eq-eqb v 0 z))) (given-bytes (course_of r) bytes)) (left_as p)
line-follows f not_read = refused f refl

all_follow : {t : Tuner} {takes : Takes} {ps : List Past} {line input : List ℕ} {final : Takes} → Follows t takes ps → Reported t takes line input final → Ends t ps line input final
all_follow {ps = ps} f no_more = record { pasts = ps; through = no_more; given = f.given }
all_follow f (last_line s) = record { pasts = _; through = last_line s; given = (line-follows f s).given }
all_follow f (one_byte n p) = let e = all_follow f p in record { pasts = e.pasts; through = one_byte n e.through; given = e.given }
all_follow f (line-ends s p) = let e = all_follow (line-follows f s) p in record { pasts = e.pasts; through = line-ends s e.through; given = e.given }

opening : Follows default_tuner ([] ∷ []) (fresh cd_rate defaults ∷ [])
unfolding received given_by
opening = record { calls = []; series = fresh_start; older = []; pasts = refl; given = refl }

pub report-holds : ReportTheorem
report-holds input printed p = let e = all_follow opening p.reported in record { pasts = e.pasts; through = e.through; text = p.text ∙ ap report_of e.given }
