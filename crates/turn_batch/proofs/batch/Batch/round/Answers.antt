use Rattle.std.proofs.Common.{◌≡◌, ◌∙◌, ℕ, Bool, List, refl, ap, sym, subst, length, add-one, arith}
use Rattle.std.specs.Prelude.{◌||◌}
use Rattle.std.proofs.lemmas.Bool.{or_right}
use Rattle.turn_batch.specs.declared.member.Member.{Member}
use Rattle.turn_batch.specs.Members.{AllLow, is_more}
use Rattle.turn_batch.specs.Schedules.{Ran, each_once}
use Rattle.turn_batch.proofs.Runs.{ran_first, ran_ready, ran_more, some_now, some_depot, or_false}
use Rattle.turn_batch.proofs.batch.Batch.round.Goals as goal
use Rattle.turn_batch.proofs.batch.Batch.round.Goals.{then-is_more, else-is_more}

pub loop-i-init : goal.loop-i-init
loop-i-init g c = record { ran = ran_first g.D.Depot.disk g.files c.args.self.now c.args.depots.now (subst AllLow c.self.view_is c.self.invariant) c.requires.1.1; some = refl }

pub turn-requires : goal.turn-requires
turn-requires g c κs within =
    let so = c.loop-i.invariant.ran in
    let i = c.loop-i.i in
    let members = so.members in
    let depots = so.depots in
    let size = c.requires.1.0 in
    let count = ap (λ (ms : List Member). length ms) c.self.view_is in
    let all = c.self.inside.members.ok.0 in (
      within,
      (
        omega arith,
        (
          omega arith,
          λ m d. ran_ready g.D.Depot.disk g.files (each_once i) c.args.self.now c.loop-i.self c.loop-i.self c.args.depots.now c.loop-i.depots c.loop-i.depots so c.requires.1.1 i m d (omega arith),
        ),
      ),
    )

pub loop-i-preserved : goal.loop-i-preserved
loop-i-preserved g c =
    let so = c.loop-i.invariant.ran in
    let i = c.loop-i.i in
    let e = c.turn.ensures in
    let members = so.members in
    let depots = so.depots in
    let size = c.requires.1.0 in
    let count = ap (λ (ms : List Member). length ms) c.self.view_is in
    let all = c.self.inside.members.ok.0 in
    let more = ran_more g.D.Depot.disk g.files (each_once i) c.args.self.now c.loop-i.self c.turn.new.self c.args.depots.now c.loop-i.depots c.turn.new.depots so i c.turn.result e.turned e.members e.others c.turn.auto.depots in
    let next : c.if-is_more.open ≡ (c.loop-i.open || is_more c.turn.result) =
    elim c.if-is_more.branch [
      | then-is_more w ↦ w.open-is ∙ sym (or_right c.loop-i.open (is_more c.turn.result) (sym c.is_more.ensures ∙ w.if-is_more.true))
      | else-is_more w ↦ w.open-is ∙ sym (ap (λ (t : Bool). c.loop-i.open || t) (sym c.is_more.ensures ∙ w.if-is_more.false) ∙ or_false c.loop-i.open)
    ] in
    record {
      ran = subst (λ (ks : List ℕ). Ran g.D.Depot.disk g.files ks c.args.self.now c.turn.new.self c.args.depots.now c.turn.new.depots) (sym (ap each_once (add-one i))) more;
      some = some_now g.D.Depot.disk g.files (each_once i) c.args.self.now c.loop-i.self c.turn.new.self c.args.depots.now c.loop-i.depots c.turn.new.depots so i c.turn.result e.turned e.members e.others
          (some_depot c.loop-i.depots (omega arith)) c.loop-i.open c.if-is_more.open (omega arith) c.loop-i.invariant.some next;
    }
