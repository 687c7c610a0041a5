use Rattle.std.proofs.Common.{rules, ap, ◌∙◌, ◌≡◌, ℕ}
use Rattle.std.specs.List.{insert}
use Rattle.wave_plan.specs.Widened.{place_in}
use Rattle.wave_plan.proofs.Placed.{with_cut_is}
use Rattle.wave_plan.proofs.widen.put_cut.Goals as goal

pub returns : goal.returns
returns c =
    let cuts = c.args.cuts.now.items in
    let k = c.args.cut in
    let is : c.place_of-place.result ≡ place_in k.span.at cuts = c.place_of-place.ensures.place ∙ ap (place_in k.span.at) c.deref.ensures.value in
    let put : c.insert.new.self.items ≡ insert cuts c.place_of-place.result k = search rules in
    put ∙ ap (λ (n : ℕ). insert cuts n k) is ∙ with_cut_is k cuts
