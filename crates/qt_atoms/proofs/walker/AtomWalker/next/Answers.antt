use Rattle.std.proofs.Common.{rules, ◌≡◌, ◌∙◌, ◌<◌, ◌+◌}
use Rattle.container_model.specs.Windows.{window}
use Rattle.me_disk.proofs.Holds.{holds_on}
use Rattle.qt_atoms.specs.Walk.{level_of}
use Rattle.qt_atoms.specs.Headers.{Begins, HasSize}
use Rattle.qt_atoms.proofs.Steps.{few_stepped, front_few}
use Rattle.qt_atoms.proofs.walker.AtomWalker.next.Goals as goal

pub returns-in-Ok-None-clause-row : goal.returns-in-Ok-None-clause-row
returns-in-Ok-None-clause-row g c = λ b holds.
    let at = c.args.self.now.at in
    let end = c.args.self.now.end in
    let s = level_of c.args.self.now.parent in
    let few : end < at + 8 = search rules in
    few_stepped s b at end (front_few s b at end (c.requires.inside b holds) few)

pub returns-in-Err-SizeSmall-clause-stuck : goal.returns-in-Err-SizeSmall-clause-stuck
returns-in-Err-SizeSmall-clause-stuck g c = λ b holds.
    let at = c.args.self.now.at in
    let end = c.args.self.now.end in
    let at_is : c.wide.new.self.at ≡ at = c.wide.ensures.stays ∙ c.head.ensures.stays in
    let end_is : c.wide.new.self.end ≡ end = c.wide.ensures.end ∙ c.head.ensures.end in
    let parent_is : c.wide.new.self.parent ≡ c.args.self.now.parent = c.wide.ensures.parent ∙ c.head.ensures.parent in
    let fits = rw (← end_is) at (c.requires.inside b holds) in
    let begins : Begins (window b at end) c.in-Ok-Some.head = rw c.in-Ok-Some.field-0-is at (c.in-Ok-Some.ensures.front b holds) in
    let wide = rw (c.head.ensures.stays, c.head.ensures.end) at (c.in-Ok.ensures.wide b (holds_on _ _ b c.head.ensures.reads holds)) in
    let has : HasSize (window b at end) c.in-Ok-Some.head.size c.in-Ok.wide = record { size = begins.size; wide = wide } in
    rw c.in-Err-SizeSmall.field-0-is at (rw (at_is, end_is, parent_is) at (c.in-Err-SizeSmall.ensures.stuck b fits (rw (← at_is, ← end_is) at begins) (rw (← at_is, ← end_is) at has)))

pub returns-in-Err-Truncated-clause-stuck : goal.returns-in-Err-Truncated-clause-stuck
returns-in-Err-Truncated-clause-stuck g c = λ b holds.
    let at = c.args.self.now.at in
    let end = c.args.self.now.end in
    let at_is : c.wide.new.self.at ≡ at = c.wide.ensures.stays ∙ c.head.ensures.stays in
    let end_is : c.wide.new.self.end ≡ end = c.wide.ensures.end ∙ c.head.ensures.end in
    let parent_is : c.wide.new.self.parent ≡ c.args.self.now.parent = c.wide.ensures.parent ∙ c.head.ensures.parent in
    let fits = rw (← end_is) at (c.requires.inside b holds) in
    let begins : Begins (window b at end) c.in-Ok-Some.head = rw c.in-Ok-Some.field-0-is at (c.in-Ok-Some.ensures.front b holds) in
    let wide = rw (c.head.ensures.stays, c.head.ensures.end) at (c.in-Ok.ensures.wide b (holds_on _ _ b c.head.ensures.reads holds)) in
    let has : HasSize (window b at end) c.in-Ok-Some.head.size c.in-Ok.wide = record { size = begins.size; wide = wide } in
    rw c.in-Err-Truncated.field-0-is at (rw (at_is, end_is, parent_is) at (c.in-Err-Truncated.ensures.stuck b fits (rw (← at_is, ← end_is) at begins) (rw (← at_is, ← end_is) at has)))

pub returns-in-Ok-pass-clause-row : goal.returns-in-Ok-pass-clause-row
returns-in-Ok-pass-clause-row g c = λ b holds.
    let at = c.args.self.now.at in
    let end = c.args.self.now.end in
    let at_is : c.wide.new.self.at ≡ at = c.wide.ensures.stays ∙ c.head.ensures.stays in
    let end_is : c.wide.new.self.end ≡ end = c.wide.ensures.end ∙ c.head.ensures.end in
    let parent_is : c.wide.new.self.parent ≡ c.args.self.now.parent = c.wide.ensures.parent ∙ c.head.ensures.parent in
    let fits = rw (← end_is) at (c.requires.inside b holds) in
    let begins : Begins (window b at end) c.in-Ok-Some.head = rw c.in-Ok-Some.field-0-is at (c.in-Ok-Some.ensures.front b holds) in
    let wide = rw (c.head.ensures.stays, c.head.ensures.end) at (c.in-Ok.ensures.wide b (holds_on _ _ b c.head.ensures.reads holds)) in
    let has : HasSize (window b at end) c.in-Ok-Some.head.size c.in-Ok.wide = record { size = begins.size; wide = wide } in
    rw (at_is, end_is, parent_is) at (c.in-Ok-pass.ensures.row b fits (rw (← at_is, ← end_is) at begins) (rw (← at_is, ← end_is) at has))
