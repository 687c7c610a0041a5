use Rattle.std.proofs.Common.{◌<◌, List, get_or, length, rules, subst, sym}
use Rattle.turn_batch.specs.declared.member.Member.{Member}
use Rattle.turn_batch.specs.Members.{IsReady, IsSound}
use Rattle.turn_batch.proofs.Lows.{low_at, low_set, turned_low}
use Rattle.turn_batch.proofs.batch.Batch.turn.Goals as goal

pub invariant_of-self : goal.invariant_of-self
invariant_of-self g c =
    let ms = c.self.inside.members.items in
    let i = c.args.i in
    let d = c.index-depots-i.result in
    let low : i < length ms = search rules in
    let before : IsSound c.index_mut.result.now = subst IsSound (sym c.index_mut.ensures.value) (low_at ms i _ c.self.invariant low) in
    let here : IsReady g.old (get_or ms i c.index_mut.result.now) (g.D.Depot.disk (get_or c.args.depots.now i d)) =
    subst (λ (xs : List Member). IsReady g.old (get_or xs i c.index_mut.result.now) (g.D.Depot.disk (get_or c.args.depots.now i d))) (sym c.self.view_is) (c.requires.1.1.1 c.index_mut.result.now d) in
    let ready : IsReady g.old c.index_mut.result.now (g.D.Depot.disk (get_or c.args.depots.now i d)) =
    subst (λ (m : Member). IsReady g.old m (g.D.Depot.disk (get_or c.args.depots.now i d))) (sym c.index_mut.ensures.value) here in
    low_set ms i c.turn.new.self c.self.invariant
    (turned_low g.D.Depot.disk g.old c.index_mut.result.now c.turn.new.self (get_or c.args.depots.now i d) c.turn.new.depot c.turn.result ready before c.turn.ensures)
