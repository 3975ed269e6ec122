-- `text::put_samples` meets its contract: each sample is put after those before it.
use Rattle.std.proofs.Common.{◌∷◌, ℤ, get_or, sym, subst, arith, pos, rules, w16, SFits}
use mir.Facts.{to_z-of_z}
use Rattle.text.specs.Text.{sample_fields, signed, Put}
use Rattle.text.specs.Places.{put-none}
use Rattle.text.specs.Spelling.{fields-put}
use Rattle.text.proofs.put_samples.Goals as goal

pub loop-x-init : goal.loop-x-init
unfolding sample_fields
loop-x-init c = (record { text = sym (put-none c.args.out.now c.args.at); next = omega arith }, omega arith)

pub loop-x-preserved : goal.loop-x-preserved
loop-x-preserved c =
    let a = c.args in
    let l = c.loop-x in
    let x = get_or a.xs.now l.x-index (pos 0) in
    let fit : SFits w16 x = search rules in
    let p = subst (λ (z : ℤ). Put l.out l.to (9 ∷ signed z) c.put_field-to.new.out c.put_field-to.result) (to_z-of_z {w = w16} {z = x} fit) c.put_field-to.ensures.put in
    (fields-put a.xs.now l.x-index (omega arith) (omega arith) l.invariant.0 p, omega arith)
