-- `wave::find` meets its contract: the walk goes to the lesser of the two ends, and what it comes to is the file's refusal.
use Rattle.std.proofs.Common.{◌≡◌, ℕ, ◌+◌, true, sym, ap, ◌∙◌, arith}
use Rattle.std.proofs.lemmas.Result.{err_from_is_err_and}
use Rattle.riff.specs.Riff.{data_name}
use Rattle.riff.specs.Walking.{seen-near}
use Rattle.wave.specs.Judged.{no-take}
use Rattle.wave.specs.Judging.{not_wave, wave-long, Surveyed, take-refused, take_found}
use Rattle.wave.specs.Waves.{is_wave}
use Rattle.wave.proofs.find.Goals.{After-judge, Else-not-is_wave}
use Rattle.wave.proofs.find.Goals as goal

-- the file begins as RIFF WAVE
begins : (c : Else-not-is_wave) → is_wave c.args.bytes.now ≡ true
begins c = sym c.is_wave.ensures ∙ c.if-not-is_wave.false

-- what was learnt of it
surveyed : (c : After-judge) → Surveyed c.args.bytes.now (8 + c.four.result) c.min-end.result c.rate_of.result c.walked-w.result
surveyed c =
    record {
      wave = sym c.is_wave.ensures ∙ c.if-not-is_wave.false;
      riff-is = ap (λ (n : ℕ). 8 + n) c.four.ensures;
      end_is = c.min-end.ensures;
      seen = c.walked-w.ensures;
      hertz-is = c.rate_of.ensures;
    }

pub returns-then-not-is_wave : goal.returns-then-not-is_wave
returns-then-not-is_wave c =
    let n = not_wave c.args.bytes.now (sym c.is_wave.ensures ∙ c.if-not-is_wave.true) in
    no-take (λ z. omega arith) (λ i. record { number = sym n i; hertz = 0; at = 0; count = 0 })

pub four-requires : goal.four-requires
four-requires c = omega (arith, wave-long c.args.bytes.now (begins (goal.at.four-requires c).Else-not-is_wave))

pub returns-in_err-hertz : goal.returns-in_err-hertz
returns-in_err-hertz c =
    let p = err_from_is_err_and c.from_residual.result c.from_residual.ensures.1 in
    rw (p.1, p.2) (take-refused (surveyed (goal.at.returns-in_err-hertz c).After-judge) c.in_err-hertz.field-0.0 c.in_err-hertz.ensures)

pub overflow_add-result : goal.overflow_add-result
overflow_add-result c =
    let h = seen-near c.args.bytes.now data_name c.walked-w.ensures.data' c.in_ok-hertz.ensures.2 in
    omega (arith, h, c.min-end.ensures)

pub returns : goal.returns
returns c = let e = c.in_ok-hertz.ensures in take_found (surveyed (goal.at.returns c).After-judge) e.0 e.1 e.2
