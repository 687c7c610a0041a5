use Rattle.std.proofs.Common.{◌≡◌, ◌∙◌, ◌+◌, ◌-◌, ◌≤◌, ℕ, List, length, take, drop, sym, ap}
use Rattle.std.proofs.lemmas.List.{take-take}
use Rattle.container_model.specs.Written.{slice}
use Rattle.container_model.proofs.Written.{length-slice}
use Rattle.opendml_index.specs.declared.head.HeadFault.TheVariants.{Short, Wrong}
use Rattle.opendml_index.specs.Heads.{head_tests, kind_wanted}
use Rattle.avi_file.proofs.Held.{refused_by, not_refused}
use Rattle.avi_file.proofs.index.read_index.Goals as goal

pub returns-in-Err-Short-clause-head : goal.returns-in-Err-Short-clause-head
returns-in-Err-Short-clause-head g c b holds =
    let k = c.args.body in
    let body = slice b k.at k.len in
    let whole : k.at + k.len ≤ length b = c.requires.inside b holds in
    let first : c.read_at.new.into ≡ take 24 body = c.in-Ok.ensures.bytes holds.tells ∙ ap (λ (x : List ℕ). slice x k.at 24) holds.bytes ∙ sym (take-take 24 k.len (drop k.at b) c.if-body-lt24.false) in
    let len : k.len ≡ length body = sym (length-slice b k.at k.len whole) in
    refused_by (k.at - 8) (head_tests (kind_wanted c.args.standard) body) Short (rw c.in-Err-Short.field-0-is at (c.in-Err-Short.ensures.head body first len))

pub returns-in-Err-Wrong-clause-head : goal.returns-in-Err-Wrong-clause-head
returns-in-Err-Wrong-clause-head g c b holds =
    let k = c.args.body in
    let body = slice b k.at k.len in
    let whole : k.at + k.len ≤ length b = c.requires.inside b holds in
    let first : c.read_at.new.into ≡ take 24 body = c.in-Ok.ensures.bytes holds.tells ∙ ap (λ (x : List ℕ). slice x k.at 24) holds.bytes ∙ sym (take-take 24 k.len (drop k.at b) c.if-body-lt24.false) in
    let len : k.len ≡ length body = sym (length-slice b k.at k.len whole) in
    refused_by (k.at - 8) (head_tests (kind_wanted c.args.standard) body) Wrong (rw c.in-Err-Wrong.field-0-is at (c.in-Err-Wrong.ensures.head body first len))

pub returns-in-Ok-head_in-clause-head : goal.returns-in-Ok-head_in-clause-head
returns-in-Ok-head_in-clause-head g c b holds =
    let k = c.args.body in
    let body = slice b k.at k.len in
    let whole : k.at + k.len ≤ length b = c.requires.inside b holds in
    let first : c.read_at.new.into ≡ take 24 body = c.in-Ok.ensures.bytes holds.tells ∙ ap (λ (x : List ℕ). slice x k.at 24) holds.bytes ∙ sym (take-take 24 k.len (drop k.at b) c.if-body-lt24.false) in
    let len : k.len ≡ length body = sym (length-slice b k.at k.len whole) in
    let read = c.in-Ok-head_in.ensures.head body first len in
    (not_refused (k.at - 8) (head_tests (kind_wanted c.args.standard) body) read.0, read.1)
