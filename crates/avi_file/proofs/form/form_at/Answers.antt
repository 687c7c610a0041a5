use Rattle.std.proofs.Common.{◌≡◌, ◌+◌, ◌%◌, ◌≤◌, true, length, min, refl, arith, drop}
use Rattle.std.specs.Prelude.{codes}
use Rattle.std.specs.declared.option.Option.TheVariants.{Some, None}
use Rattle.part_tree.specs.declared.names.FourCc.{FourCc}
use Rattle.riff_form.specs.declared.ChunkAt.{ChunkAt}
use Rattle.riff_form.specs.Walk.{InOrder}
use Rattle.avi_file.specs.Forms.{SizeAt}
use Rattle.avi_model.specs.Avi.{avi_front}
use Rattle.avi_model.proofs.Turns.{no_form}
use Rattle.avi_file.proofs.Turned.{form_step, form_spelled, form_passes, full_long}
use Rattle.avi_file.proofs.form.form_at.Goals as goal

pub returns-in-Ok-None-clause-found : goal.returns-in-Ok-None-clause-found
returns-in-Ok-None-clause-found g c b holds =
    let none : SizeAt c.args.first b c.args.at None = rw c.in-Ok-None.field-0-is at (c.in-Ok-None.ensures.size b holds) in
    (none, no_form c.args.first (drop c.args.at b) none)

pub returns-then-size-len-clause-found : goal.returns-then-size-len-clause-found
returns-then-size-len-clause-found g c b holds =
    let some : SizeAt c.args.first b c.args.at (Some c.in-Ok-Some.size) = rw c.in-Ok-Some.field-0-is at (c.in-Ok-Some.ensures.size b holds) in
    let least : c.args.at + 12 ≤ c.args.len = rw c.in-Ok-Some.field-0-is at c.in-Ok-Some.ensures.least in
    let whole : c.args.len ≡ length b = c.requires.whole b holds in
    (full_long (avi_front c.args.first (drop c.args.at b)) some, form_passes c.args.first b (codes "RIFF") c.args.at c.in-Ok-Some.size (omega arith) (omega arith) some, refl)

pub returns-clause-found : goal.returns-clause-found
returns-clause-found g c b holds =
    let at = c.args.at in
    let n = c.in-Ok-Some.size in
    let some : SizeAt c.args.first b at (Some n) = rw c.in-Ok-Some.field-0-is at (c.in-Ok-Some.ensures.size b holds) in
    let whole : c.args.len ≡ length b = c.requires.whole b holds in
    let least : at + 12 ≤ c.args.len = rw c.in-Ok-Some.field-0-is at c.in-Ok-Some.ensures.least in
    let next : c.min.result ≡ min (length b) (at + 8 + n + n % 2) = omega arith in
    let id : FourCc = record { 0 = codes "RIFF" } in
    let k : ChunkAt = record { id = id; at = at; body = record { at = at + 8; len = n }; next = c.min.result; padded = true } in
    let whole_of : at + 8 + n ≤ c.min.result = omega arith in
    let last : c.min.result ≤ c.args.len = omega arith in
    let behind : c.min.result ≡ min c.args.len (at + 8 + n + n % 2) = omega arith in
    let order : InOrder at c.args.len k = record { letters = refl; begins = refl; body = refl; whole = whole_of; last = last; behind = behind } in
    (some, form_step c.args.first b (codes "RIFF") at n c.min.result (omega arith) next some, form_spelled b at c.args.len k whole order)
