use Rattle.std.proofs.Common.{◌≡◌, false, List, [], refl, arith}
use Rattle.std.specs.Prelude.{IsTrue}
use Rattle.file_swap.specs.Steps.{Step}
use Rattle.file_swap.specs.declared.machine.Turn.TheVariants.{More}
use Rattle.file_swap.proofs.Cores.{core_permits, core_leaves, core_failed, core_wrote, core_low, core_sound, core_counts, core_open, core_underway, core_sure, core_tells, core_later}
use Rattle.file_swap.specs.Machines.{swap_of}
use Rattle.file_swap.proofs.Tallies.{turn_counts}
use Rattle.file_swap.proofs.machine.Core.turn.Goals as goal

still : {l : List Step} → (l ≡ [] → IsTrue false) → l ≡ [] → ⊥
still f none = let t = f none in absurd cc

pub step-requires-clause-permits : goal.step-requires-clause-permits
step-requires-clause-permits g c =
    core_permits c.args.self.now c.requires.1.0 (still c.if-is_ended.ensures.1) g.old (g.D.Depot.disk c.args.depot.now) (g.D.Depot.disk c.args.depot.now) c.requires.1.1

pub returns-then-is_ended-2-clause-underway : goal.returns-then-is_ended-2-clause-underway
returns-then-is_ended-2-clause-underway g c = λ n.
    core_underway c.args.self.now c.requires.1.0 (still c.if-is_ended.ensures.1) g.old (g.D.Depot.disk c.args.depot.now) (g.D.Depot.disk c.step.new.depot) c.requires.1.1
    c.step.new.self c.args.self.now.failed c.in-Ok.ensures.sound c.in-Ok.ensures.plan c.in-Ok.ensures.left c.in-Ok.field-0 refl c.in-Ok.ensures.does c.in-Ok.ensures.holds

pub returns-then-is_ended-2-clause-sure : goal.returns-then-is_ended-2-clause-sure
returns-then-is_ended-2-clause-sure g c = λ n.
    core_sure c.args.self.now c.requires.1.0 (still c.if-is_ended.ensures.1) g.old (g.D.Depot.disk c.args.depot.now) (g.D.Depot.disk c.step.new.depot) c.requires.1.1
    c.step.new.self c.args.self.now.failed c.in-Ok.ensures.sound c.in-Ok.ensures.plan c.in-Ok.ensures.left (g.met.D.Depot.lawful c.args.depot.now) (g.met.D.Depot.lawful c.step.new.depot) c.in-Ok.field-0 c.in-Ok.ensures.does

pub returns-then-is_ended-2-clause-tells : goal.returns-then-is_ended-2-clause-tells
returns-then-is_ended-2-clause-tells g c = core_tells c.args.self.now c.requires.1.0 (still c.if-is_ended.ensures.1) g.old (g.D.Depot.disk c.args.depot.now) (g.D.Depot.disk c.step.new.depot) c.requires.1.1 c.step.result c.step.ensures.does

pub returns-then-is_ended-2-clause-later : goal.returns-then-is_ended-2-clause-later
returns-then-is_ended-2-clause-later g c = core_later c.args.self.now c.requires.1.0 (still c.if-is_ended.ensures.1) g.old (g.D.Depot.disk c.args.depot.now) (g.D.Depot.disk c.step.new.depot) c.requires.1.1 c.step.result c.step.ensures.does

pub returns-then-is_ended-2-clause-crash : goal.returns-then-is_ended-2-clause-crash
returns-then-is_ended-2-clause-crash g c = core_leaves c.args.self.now c.requires.1.0 (still c.if-is_ended.ensures.1) g.old (g.D.Depot.disk c.args.depot.now) (g.D.Depot.disk c.step.new.depot) c.requires.1.1 (g.met.D.Depot.lawful c.args.depot.now) c.step.result c.step.ensures.does

pub returns-else-is_ended-2-clause-underway : goal.returns-else-is_ended-2-clause-underway
returns-else-is_ended-2-clause-underway g c = λ n.
    core_underway c.args.self.now c.requires.1.0 (still c.if-is_ended.ensures.1) g.old (g.D.Depot.disk c.args.depot.now) (g.D.Depot.disk c.step.new.depot) c.requires.1.1
    c.step.new.self c.args.self.now.failed c.in-Ok.ensures.sound c.in-Ok.ensures.plan c.in-Ok.ensures.left c.in-Ok.field-0 refl c.in-Ok.ensures.does c.in-Ok.ensures.holds

pub returns-else-is_ended-2-clause-sure : goal.returns-else-is_ended-2-clause-sure
returns-else-is_ended-2-clause-sure g c = λ n.
    core_sure c.args.self.now c.requires.1.0 (still c.if-is_ended.ensures.1) g.old (g.D.Depot.disk c.args.depot.now) (g.D.Depot.disk c.step.new.depot) c.requires.1.1
    c.step.new.self c.args.self.now.failed c.in-Ok.ensures.sound c.in-Ok.ensures.plan c.in-Ok.ensures.left (g.met.D.Depot.lawful c.args.depot.now) (g.met.D.Depot.lawful c.step.new.depot) c.in-Ok.field-0 c.in-Ok.ensures.does

pub returns-else-is_ended-2-clause-tells : goal.returns-else-is_ended-2-clause-tells
returns-else-is_ended-2-clause-tells g c = core_tells c.args.self.now c.requires.1.0 (still c.if-is_ended.ensures.1) g.old (g.D.Depot.disk c.args.depot.now) (g.D.Depot.disk c.step.new.depot) c.requires.1.1 c.step.result c.step.ensures.does

pub returns-else-is_ended-2-clause-later : goal.returns-else-is_ended-2-clause-later
returns-else-is_ended-2-clause-later g c = core_later c.args.self.now c.requires.1.0 (still c.if-is_ended.ensures.1) g.old (g.D.Depot.disk c.args.depot.now) (g.D.Depot.disk c.step.new.depot) c.requires.1.1 c.step.result c.step.ensures.does

pub returns-else-is_ended-2-clause-crash : goal.returns-else-is_ended-2-clause-crash
returns-else-is_ended-2-clause-crash g c = core_leaves c.args.self.now c.requires.1.0 (still c.if-is_ended.ensures.1) g.old (g.D.Depot.disk c.args.depot.now) (g.D.Depot.disk c.step.new.depot) c.requires.1.1 (g.met.D.Depot.lawful c.args.depot.now) c.step.result c.step.ensures.does

pub returns-else-is_ended-2-clause-written : goal.returns-else-is_ended-2-clause-written
returns-else-is_ended-2-clause-written g c = core_wrote c.args.self.now c.requires.1.0 (still c.if-is_ended.ensures.1) g.old (g.D.Depot.disk c.args.depot.now) (g.D.Depot.disk c.step.new.depot) c.requires.1.1
    c.in-Ok.field-0 More c.in-Ok.ensures.does

pub returns-else-is_ended-2-clause-sound : goal.returns-else-is_ended-2-clause-sound
returns-else-is_ended-2-clause-sound g c = core_sound c.args.self.now c.requires.1.0 (still c.if-is_ended.ensures.1) g.old (g.D.Depot.disk c.args.depot.now) (g.D.Depot.disk c.step.new.depot) c.requires.1.1
    c.step.new.self c.args.self.now.failed c.in-Ok.ensures.sound c.in-Ok.ensures.plan c.in-Ok.ensures.left

pub returns-else-is_ended-2-clause-made : goal.returns-else-is_ended-2-clause-made
returns-else-is_ended-2-clause-made g c = λ n. core_counts c.args.self.now c.requires.1.0 (still c.if-is_ended.ensures.1) g.old (g.D.Depot.disk c.args.depot.now) (g.D.Depot.disk c.step.new.depot) c.requires.1.1
    c.step.new.self c.args.self.now.failed c.in-Ok.ensures.sound c.in-Ok.ensures.plan c.in-Ok.ensures.left

pub returns-else-is_ended-2-clause-more : goal.returns-else-is_ended-2-clause-more
returns-else-is_ended-2-clause-more g c = λ e. core_open c.args.self.now c.requires.1.0 (still c.if-is_ended.ensures.1) g.old (g.D.Depot.disk c.args.depot.now) (g.D.Depot.disk c.step.new.depot) c.requires.1.1
    c.step.new.self c.args.self.now.failed c.in-Ok.ensures.sound c.in-Ok.ensures.plan c.in-Ok.ensures.left (still c.if-is_ended-2.ensures.1)

pub returns-else-is_ended-2-clause-idle : goal.returns-else-is_ended-2-clause-idle
returns-else-is_ended-2-clause-idle g c = λ all. let low = core_low c.args.self.now c.requires.1.0 (still c.if-is_ended.ensures.1) g.old (g.D.Depot.disk c.args.depot.now) (g.D.Depot.disk c.step.new.depot) c.requires.1.1 in absurd (omega (arith, low, all))

pub returns-in-Err-clause-tells : goal.returns-in-Err-clause-tells
returns-in-Err-clause-tells g c = core_tells c.args.self.now c.requires.1.0 (still c.if-is_ended.ensures.1) g.old (g.D.Depot.disk c.args.depot.now) (g.D.Depot.disk c.step.new.depot) c.requires.1.1 c.step.result c.step.ensures.does

pub returns-in-Err-clause-later : goal.returns-in-Err-clause-later
returns-in-Err-clause-later g c = core_later c.args.self.now c.requires.1.0 (still c.if-is_ended.ensures.1) g.old (g.D.Depot.disk c.args.depot.now) (g.D.Depot.disk c.step.new.depot) c.requires.1.1 c.step.result c.step.ensures.does

pub returns-in-Err-clause-crash : goal.returns-in-Err-clause-crash
returns-in-Err-clause-crash g c = core_leaves c.args.self.now c.requires.1.0 (still c.if-is_ended.ensures.1) g.old (g.D.Depot.disk c.args.depot.now) (g.D.Depot.disk c.step.new.depot) c.requires.1.1 (g.met.D.Depot.lawful c.args.depot.now) c.step.result c.step.ensures.does

pub returns-in-Err-clause-written : goal.returns-in-Err-clause-written
returns-in-Err-clause-written g c = core_failed c.args.self.now c.requires.1.0 (still c.if-is_ended.ensures.1) g.old (g.D.Depot.disk c.args.depot.now) (g.D.Depot.disk c.step.new.depot) c.requires.1.1 c.in-Err.field-0 c.in-Err.ensures.does

pub returns-in-Err-clause-idle : goal.returns-in-Err-clause-idle
returns-in-Err-clause-idle g c = λ all. let low = core_low c.args.self.now c.requires.1.0 (still c.if-is_ended.ensures.1) g.old (g.D.Depot.disk c.args.depot.now) (g.D.Depot.disk c.step.new.depot) c.requires.1.1 in absurd (omega (arith, low, all))

pub returns-then-is_ended-2-clause-counted : goal.returns-then-is_ended-2-clause-counted
returns-then-is_ended-2-clause-counted g c = let low = core_low c.args.self.now c.requires.1.0 (still c.if-is_ended.ensures.1) g.old (g.D.Depot.disk c.args.depot.now) (g.D.Depot.disk c.step.new.depot) c.requires.1.1 in turn_counts (swap_of c.args.self.now) _ _ low c.step.ensures.counted

pub returns-else-is_ended-2-clause-counted : goal.returns-else-is_ended-2-clause-counted
returns-else-is_ended-2-clause-counted g c = let low = core_low c.args.self.now c.requires.1.0 (still c.if-is_ended.ensures.1) g.old (g.D.Depot.disk c.args.depot.now) (g.D.Depot.disk c.step.new.depot) c.requires.1.1 in turn_counts (swap_of c.args.self.now) _ _ low c.step.ensures.counted

pub returns-in-Err-clause-counted : goal.returns-in-Err-clause-counted
returns-in-Err-clause-counted g c = let low = core_low c.args.self.now c.requires.1.0 (still c.if-is_ended.ensures.1) g.old (g.D.Depot.disk c.args.depot.now) (g.D.Depot.disk c.step.new.depot) c.requires.1.1 in turn_counts (swap_of c.args.self.now) _ _ low c.step.ensures.counted
