use Rattle.std.proofs.Common.{◌≡◌, ◌∙◌, ℕ, List, take, drop, sym, ap, arith, length-take}
use Rattle.std.proofs.lemmas.List.{take-take}
use Rattle.container_model.specs.Chunk.{riff}
use Rattle.container_model.specs.Written.{slice}
use Rattle.container_model.proofs.Written.{length-slice}
use Rattle.riff_form.specs.Walk.{chunk_in}
use Rattle.avi_file.proofs.Sorts.{kind_of_list, kind_of_short}
use Rattle.avi_file.proofs.kind.top_kind.Goals as goal

pub returns-then-chunk-lt4-clause-kind : goal.returns-then-chunk-lt4-clause-kind
returns-then-chunk-lt4-clause-kind g c b held =
    let k = c.args.chunk.now in
    let this = chunk_in b riff k in
    kind_of_short k.id.0 this.body this.pad (sym c.is.ensures.is ∙ c.if-is.false) (sym c.is-2.ensures.is ∙ c.if-is-2.false)
    (omega (arith, length-take 4 this.body, length-slice b k.body.at k.body.len (c.requires.inside b held), c.if-chunk-lt4.true))

pub returns-clause-kind : goal.returns-clause-kind
returns-clause-kind g c b held =
    let k = c.args.chunk.now in
    let this = chunk_in b riff k in
    let word : c.read_at.new.into ≡ take 4 this.body =
    c.in_ok-read_at.ensures.bytes held.tells ∙ ap (λ (x : List ℕ). slice x k.body.at 4) held.bytes ∙ sym (take-take 4 k.body.len (drop k.body.at b) c.if-chunk-lt4.false) in
    rw c.kind_by.ensures (kind_of_list k.id.0 this.body this.pad c.read_at.new.into (sym c.is.ensures.is ∙ c.if-is.false) (sym c.is-3.ensures.is ∙ c.if-not-is.false) (sym c.is-2.ensures.is ∙ c.if-is-2.false) word)
