-- `text::first` meets its contract: `position` finds the byte in what stands from the place on.
use Rattle.std.proofs.Common.{rules, tests, ◌≡◌, length, drop, take, take_all, length-drop, arith, ◌-◌, ◌==◌, sym, ◌∙◌, ap}
use Rattle.std.specs.List.{position}
use Rattle.std.proofs.lemmas.Iterator.{YieldsList-from_slice}
use Rattle.std.proofs.lemmas.Iterator.Search.{position_from_yields_List}
use Rattle.text.specs.Places.{first_at, first_nowhere}
use Rattle.text.proofs.first.Goals as goal

pub returns-in-Some : goal.returns-in-Some
returns-in-Some c =
    let a = c.args in
    let rest = take (length a.a.now - a.from) (drop a.from a.a.now) in
    let e = position_from_yields_List (λ x. x == a.b) _ _ c.position.result c.position.ensures.ran (YieldsList-from_slice rest cc) (λ x b q k. search (rules, tests)) in
    let t : rest ≡ drop a.from a.a.now = take_all _ _ (omega (arith, length-drop a.from a.a.now)) in
    first_at a.a.now a.from a.b c.requires c.in-Some.k (ap (position (λ x. x == a.b)) (sym t) ∙ sym e ∙ c.in-Some.is)

pub returns-in-None : goal.returns-in-None
returns-in-None c =
    let a = c.args in
    let rest = take (length a.a.now - a.from) (drop a.from a.a.now) in
    let e = position_from_yields_List (λ x. x == a.b) _ _ c.position.result c.position.ensures.ran (YieldsList-from_slice rest cc) (λ x b q k. search (rules, tests)) in
    let t : rest ≡ drop a.from a.a.now = take_all _ _ (omega (arith, length-drop a.from a.a.now)) in
    first_nowhere a.a.now a.from a.b c.requires (ap (position (λ x. x == a.b)) (sym t) ∙ sym e ∙ c.in-None.is)
