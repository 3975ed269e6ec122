-- A block that is taken: what must hold before its tones are followed, what follows them, and the tuner that this comes to.
use Rattle.std.specs.Prelude.{◌≡◌, Bool, true, false, ℕ, zero, suc, ◌+◌, ◌-◌, ◌*◌, ◌≤◌, eqb, ℤ, take, drop, get_or}
use Rattle.std.proofs.Math.Path.{refl, ap}
use Rattle.std.proofs.Common.{sym, ◌∙◌, subst, add-one, arith, length-append, length-drop, take-append-drop, take_at, drop_at, drop-drop}
use Rattle.std.proofs.Math.Bool.{cond}
use mathlib.Core.List.{List, [], ◌++◌, map, flatten}
use Rattle.std.proofs.Math.ListN.{length}
use Rattle.std.proofs.lemmas.List.{length-map}
use Rattle.rules.specs.declared.Tone.{Tone}
use Rattle.rules.specs.Rules.{Given, gives, samples_out, take_limit, longest_block}
use Rattle.rules.specs.Facts.{ForceIn}
use Rattle.rules.proofs.Blocks.{given-length}
use Rattle.rules.proofs.Position.{behind_in_bounds, tone-rate}
use Rattle.rules.specs.Sane.{Sane}
use Rattle.copying.specs.Copies.{Joined}
use Rattle.steps.specs.declared.Progress.{Progress}
use Rattle.steps.specs.Running.{Tones, given, tones_given, Long512, Begins}
use Rattle.steps.specs.Going.{Going}
use Rattle.steps.specs.Heading.{paced-all, ran, ready-left, ended-left}
use Rattle.lists.specs.Lists.{Sheet, sheet, sung_note, notes_sung, after_notes}
use Rattle.lists.specs.Hushes.{hushed}
use Rattle.lists.proofs.Hushes.{hushed-sung}
use Rattle.lists.specs.Counting.{one_if, counted}
use Rattle.reports.specs.declared.Figures.{Figures}
use Rattle.reports.specs.Reports.{figures_of}
use Rattle.reports.specs.Counting.{one_pitched, pitched_in, distance_in}
use Rattle.reports.proofs.Counting.{pitched-more, none-pitched, block-counted}
use Rattle.record.specs.declared.Heard.{Heard}
use Rattle.tuner.specs.declared.Numbers.{Numbers}
use Rattle.tuner.specs.declared.Tuner.{Tuner}
use Rattle.tuner.specs.Tuners.{take_of, force_of, voice_at, Good, kept_places, kept_out, last_of, stands_at, voice_beside, voice_out, outs_beside, list_after, after_block}
use Rattle.tuner.specs.Parted.{tuner_of}
use Rattle.tuner.specs.Afters.{begins_at, Led}
use Rattle.tuner.proofs.Afters.{StoresLong, begin_long, begin_ready, begin_take, block-is, led-is}
use Rattle.tuner.specs.Following.{Goes, SungTo, listed_of}
use Rattle.tuner.proofs.Outputs.{glided-long}
use Rattle.tuner.specs.Beside.{ToldEach}
use Rattle.tuner.proofs.Beside.{told-each, told_in, told-tracked, sang_rules}
use Rattle.tuner.specs.Taking.{Followed, Follows, Hears, last_by, numbers_with}

-- ---- counted samples

one_or_other : (b : Bool) → cond b 0 1 + cond b 1 0 ≡ 1
one_or_other true = refl
one_or_other false = refl

one_of : (p : ℕ) → one_pitched p + one_if p 0 ≡ 1
unfolding one_if
one_of p = one_or_other (eqb p 0)

-- those with a period, and those without
pub pitched-counted : (ps : List ℕ) (n : ℕ) → n ≤ length ps → pitched_in (take n ps) + counted 0 ps n ≡ n
unfolding counted
pitched-counted ps zero h = omega (arith, none-pitched)
pitched-counted ps (suc n) h =
    let more = ap (λ (m : ℕ). pitched_in (take m ps)) (sym (add-one n)) ∙ pitched-more ps n (omega arith) in
    omega (arith, more, pitched-counted ps n (omega arith), one_of (get_or ps n 0))

-- ---- from a good tuner to the tuner that a block leaves
module _ (t : Tuner) (g : Good t) (st : StoresLong t) {xs s y : List ℤ} (j : Joined t.heard xs 2276 s) (k : Joined t.eighths [] 288 y) where
  good-force : ForceIn (force_of t)
  good-force = record { settings = g.lead.settings; key = g.lead.keyboard.key; hertz = g.lead.hertz }

  good_sane : Sane (take_of t)
  unfolding take_of
  good_sane = record { pitch = g.lead.pitch.pitch; bounds = behind_in_bounds (record { is = refl; near = g.lead.head.behind }) }

  pub hears : {ts : Tones} → length xs ≤ 512 → t.numbers.count + length xs ≤ take_limit → Long512 ts → Hears t.numbers y t.energies t.correlations s (length xs) ts
  hears few c l = record { force = good-force; long = begin_long t g st j k; stored = omega (arith, j.long); few = few; ready = begin_ready t g st j k; count = c; places = l }

  -- what the rules give for the samples
  abbrev gave : List Given
  gave = gives (force_of t) (take_of t) xs

  many : length gave ≡ length xs
  many = given-length (force_of t) (take_of t) xs

  module _ (few : length xs ≤ 512) {y' : List ℤ} {e : List ℕ} {h : List ℤ} {ts₀ ts : Tones} {q : Progress} (going : Going (force_of t) s 1764 y ts₀ (begins_at t.numbers) (length xs) y' e h ts q) (l₀ : Long512 ts₀) (c : t.numbers.count + length xs ≤ take_limit) where
    told_is : ts ≡ tones_given ts₀ gave
    told_is = going.tone ∙ (λ i. tones_given ts₀ (gives (force_of t) (begin_take t g st j k i) (block-is t g st j k i)))

    told : ToldEach (force_of t) (take_of t) xs ts
    told = told-each (force_of t) (take_of t) xs ts₀ told_is

    part-long : (part : Tone → ℕ) (before : List ℕ) → length before ≡ 512 → length (given part gave before) ≡ 512
    part-long part before e =
        length-append (map (λ (g : Given). part g.tone) gave) (drop (length gave) before) ∙ omega (arith, length-map gave (λ (g : Given). part g.tone), length-drop (length gave) before, many)

    fits : 1764 + length xs ≤ length s
    fits = omega (arith, j.long)

    pub follows : (outs : List ℤ) → length outs ≡ kept_places → Follows t.numbers q ts s (length xs) outs
    follows outs o =
        record {
          hertz = g.lead.hertz;
          voices = g.voices;
          list = g.list;
          near = g.lead.head.behind;
          paced = paced-all going fits;
          tracked = told-tracked good-force good_sane told;
          rates = λ i u. subst (λ (n : ℕ). n ≤ 131072) (sym (told.rate i u)) (tone-rate (told_in good-force good_sane xs i)).1;
          long =
              record {
                periods = ap (λ (o : Tones). length o.periods) told_is ∙ part-long (λ (o : Tone). o.period) ts₀.periods l₀.periods;
                notes = ap (λ (o : Tones). length o.notes) told_is ∙ part-long (λ (o : Tone). o.note) ts₀.notes l₀.notes;
                rates = ap (λ (o : Tones). length o.rates) told_is ∙ part-long (λ (o : Tone). o.rate) ts₀.rates l₀.rates;
              };
          stored = fits;
          few = few;
          count = c;
          places = o;
        }

    -- each voice goes on as the rules say
    goes : Goes t.numbers.hertz ts.periods ts.notes s (length xs) t.numbers.chosen t.numbers.voices (voice_beside t xs) (voice_out t xs)
    unfolding take_of
    goes =
        record {
          each = λ i u v' o p.
              let v = voice_at t.numbers.voices i in
              let d = sang_rules {f = force_of t} v.interval {t = take_of t} (stands_at t v) j refl st.store {ts = ts} told {b = v'.behind} refl p.sang in
              (λ m. record { interval = p.interval m; behind = d.0 m }, d.1);
        }

    -- ---- what followed
    module _ {number : ℕ} {outs : List ℤ} {store : List ℕ} {r : Numbers} {outs' : List ℤ} {store' : List ℕ} (f : Followed t.numbers q number ts s (length xs) outs store r outs' store')
        {heard' eighths' : List ℤ} (a : heard' ≡ take (length t.heard) (drop (length xs) s)) (b : eighths' ≡ take (length t.eighths) (drop (q.places - 224) y')) where
      begins : Begins (length xs) (begins_at t.numbers)
      begins = record { places = refl; count = c; repeated = refl; dropped = refl }

      -- the lead's parts
      abbrev heard_now : Heard
      heard_now = record { count = q.count; energies = e; correlations = h; store = heard'; eighths = eighths' }

      led : Led t xs heard_now r.pitch f.lead.behind f.lead.repeated f.lead.dropped f.out
      led =
          let rd = ready-left going fits f.glided in
          led-is t g st j k few rd.eighths.long rd (ran going fits f.glided begins) (ended-left going fits f.glided) refl a b f.pitch

      -- the figures
      pitched-is : pitched_in (take (length xs) ts.periods) ≡ (figures_of gave).pitched
      pitched-is =
          (λ i. pitched_in (take (sym many i) (told_is i).periods))
          ∙ ap (λ (o : Figures). o.pitched) (block-counted gave (drop (length gave) ts₀.periods) (drop (length gave) ts₀.rates))

      strayed-is : distance_in (take (length xs) ts.rates) ≡ (figures_of gave).sum
      strayed-is =
          (λ i. distance_in (take (sym many i) (told_is i).rates))
          ∙ ap (λ (o : Figures). o.sum) (block-counted gave (drop (length gave) ts₀.periods) (drop (length gave) ts₀.rates))

      last-is : last_by number (length xs) ts f.lead ≡ last_of number xs gave
      unfolding figures_of
      last-is = λ i. record { number = number; length = length xs; repeated = led.repeated-is i; dropped = led.dropped-is i; pitched = pitched-is i; strayed = strayed-is i }

      -- the list
      notes-is : take (length xs) (hushed (length xs) ts.periods ts.notes) ≡ notes_sung gave
      notes-is =
          (λ i. take (sym many i) (hushed (sym many i) (told_is i).periods (told_is i).notes)) ∙ hushed-sung gave (drop (length gave) ts₀.periods) (drop (length gave) ts₀.notes)

      list-is : sheet r.list store' ≡ list_after t xs store
      unfolding listed_of list_after
      list-is =
          let n = t.numbers in
          f.list ∙ ap (λ (ns : List ℕ). cond (eqb n.listed 0) (sheet n.list store) (after_notes (sung_note n.pitch.tone) n.count (sheet n.list store) ns)) notes-is

      pub rows-after : store' ≡ (list_after t xs store).store
      rows-after = ap (λ (k : Sheet). k.store) list-is

      -- the outputs
      out-long : length f.out ≡ 512
      out-long = glided-long few f.glided

      beside : SungTo t.numbers.chosen t.numbers.voices (f.out ++ drop longest_block outs) (voice_beside t xs) (voice_out t xs) r.voices outs'
      beside = f.voices (voice_beside t xs) (voice_out t xs) goes

      module _ (o : outs ≡ t.outs) where
        outs-is : outs' ≡ outs_beside t xs
        outs-is =
            let many = t.numbers.chosen in
            let here : 512 * (1 + many) ≡ 512 + 512 * many = omega arith in
            sym (take-append-drop (512 * (1 + many)) outs')
            ∙ (λ i. beside.front i ++ beside.behind i)
            ∙ (λ i. (take_at f.out (drop 512 outs) 512 out-long ∙ led.out-is) i ++ flatten (map (voice_out t xs) (take many t.numbers.voices)) ++ drop (here i) (f.out ++ drop 512 outs))
            ∙ ap (λ (l : List ℤ). kept_out (length xs) (samples_out gave) ++ flatten (map (voice_out t xs) (take many t.numbers.voices)) ++ l)
            (sym (drop-drop (512 * many) 512 (f.out ++ drop 512 outs))
            ∙ ap (drop (512 * many)) (drop_at f.out (drop 512 outs) 512 out-long)
            ∙ drop-drop (512 * many) 512 outs
            ∙ (λ i. drop (sym here i) (o i)))

        -- the tuner after the block
        pub taken_is : tuner_of r e h heard' eighths' outs' ≡ after_block t number xs store
        unfolding after_block
        taken_is =
            let heard = led.heard-is in
            ap (λ (n : Numbers). tuner_of n e h heard' eighths' outs') f.numbers
            ∙ (λ i. tuner_of (numbers_with t.numbers (heard i).count (led.pitch-is i) (led.behind-is i) (last-is i) (list-is i).listing (beside.voices i))
            (heard i).energies (heard i).correlations (heard i).store (heard i).eighths (outs-is i))
