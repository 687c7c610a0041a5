use Rattle.file_swap.proofs.Cores.{first_swap, first_sound}
use Rattle.file_swap.proofs.machine.Core.new.Goals as goal

pub returns-clause-swap : goal.returns-clause-swap
returns-clause-swap c = first_swap c.in_ok-new.field-0 c.args.plan c.in_ok-new.ensures.plan c.in_ok-new.ensures.left c.in_ok-new.ensures.held

pub returns-clause-sound : goal.returns-clause-sound
returns-clause-sound c = first_sound c.in_ok-new.field-0 c.in_ok-new.ensures.sound c.in_ok-new.ensures.left
