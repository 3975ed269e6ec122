-- `wave::read_take` meets its contract: by the take that was found, and by the room of the output.
use Rattle.std.proofs.Common.{ℕ, ◌+◌, ◌-◌, ◌*◌, ◌++◌, ◌≤◌, length, drop, take, refl, sym, ap, ◌∙◌, arith, length-take-le}
use Rattle.whole.specs.Lists.{length-list_of}
use Rattle.riff.specs.Riff.{number_at}
use Rattle.wave.specs.Waves.{samples_at, sample_of}
use Rattle.wave.specs.Pieces.{samples_part}
use Rattle.wave.specs.Judging.{take-inside, read_taken}
use Rattle.wave.proofs.read_take.Goals as goal

pub returns : goal.returns
returns c =
    let bytes = c.args.bytes.now in
    let out = c.args.out.now in
    let t = c.in_ok-take.take in
    let l : t.count ≤ length out = omega arith in
    let n = length-take-le t.count out l in
    let inside : 2 * t.count ≤ length bytes - t.at = omega (arith, take-inside c.in_ok-take.ensures refl) in
    let moved = c.samples.ensures ∙ ap (samples_at (take (length bytes - t.at) (drop t.at bytes)) 0) n ∙ samples_part bytes t.at (length bytes - t.at) t.count inside in
    let m = length-list_of (λ (k : ℕ). sample_of (number_at bytes (t.at + 2 * k) 2)) t.count in
    read_taken c.in_ok-take.ensures refl l (λ i. moved i ++ drop (sym m i) out)
