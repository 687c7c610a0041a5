use Rattle.std.proofs.Common.{arith, ap, sym, subst, ◌∙◌, ◌≡◌, ◌+◌, ℕ, List, drop, length}
use Rattle.std.specs.Prelude.{Some}
use Rattle.part_tree.specs.declared.why.Why.TheVariants.{Truncated}
use Rattle.container_model.specs.Chunk.{riff}
use Rattle.info_list.specs.Info.{IsInfo, CutInfo}
use Rattle.riff_form.specs.Walk.{chunk_in}
use Rattle.container_model.specs.Written.{slice}
use Rattle.info_list.specs.Fields.{Grows, items_held}
use Rattle.info_list.specs.declared.InfoItem.{InfoItem}
use Rattle.wave_file.proofs.Listed.{slice_drop, items_added, items_cut, items_many}
use Rattle.wave_file.proofs.fields.read_items.Goals as goal

pub returns-in-Err-Truncated-clause-items : goal.returns-in-Err-Truncated-clause-items
returns-in-Err-Truncated-clause-items g c = λ b holds is.
    let same : c.as_slice.result.now ≡ drop 4 (slice b c.args.chunk.now.body.at c.args.chunk.now.body.len) =
    c.as_slice.ensures ∙ c.in-Ok.ensures.bytes b holds ∙ sym (slice_drop b c.args.chunk.now.body.at c.args.chunk.now.body.len 4 c.requires.long)
    in
    let info : CutInfo c.as_slice.result.now c.in-Err-Truncated.at = rw c.in-Err-Truncated.field-0-is at c.in-Err-Truncated.ensures.list in
    let done = items_cut (chunk_in b riff c.args.chunk.now) c.args.chunk.now.at c.args.parts c.in-Err-Truncated.at is (subst (λ (x : List ℕ). CutInfo x c.in-Err-Truncated.at) same info) in
    done ∙ ap (λ (x : ℕ). Some (Truncated (c.args.chunk.now.at + 12 + x))) (sym c.in-Err-Truncated.at-is)

pub returns-then-parts-count-gt-MOST_PARTS-clause-items : goal.returns-then-parts-count-gt-MOST_PARTS-clause-items
returns-then-parts-count-gt-MOST_PARTS-clause-items g c = λ b holds is.
    let same : c.as_slice.result.now ≡ drop 4 (slice b c.args.chunk.now.body.at c.args.chunk.now.body.len) =
    c.as_slice.ensures ∙ c.in-Ok.ensures.bytes b holds ∙ sym (slice_drop b c.args.chunk.now.body.at c.args.chunk.now.body.len 4 c.requires.long)
    in
    let info : IsInfo c.as_slice.result.now c.in-Ok-read_info.list = c.in-Ok-read_info.ensures.list in
    items_many (chunk_in b riff c.args.chunk.now) c.args.chunk.now.at c.args.parts c.in-Ok-read_info.list is (subst (λ (x : List ℕ). IsInfo x c.in-Ok-read_info.list) same info)
    (omega (arith, c.if-parts-count-gt-MOST_PARTS.true, ap length c.as_slice-items.ensures))

pub returns-clause-items : goal.returns-clause-items
returns-clause-items g c = λ b holds is.
    let same : c.as_slice.result.now ≡ drop 4 (slice b c.args.chunk.now.body.at c.args.chunk.now.body.len) =
    c.as_slice.ensures ∙ c.in-Ok.ensures.bytes b holds ∙ sym (slice_drop b c.args.chunk.now.body.at c.args.chunk.now.body.len 4 c.requires.long)
    in
    let info : IsInfo c.as_slice.result.now c.in-Ok-read_info.list = c.in-Ok-read_info.ensures.list in
    items_added (chunk_in b riff c.args.chunk.now) c.args.chunk.now.at c.args.parts _ c.args.fields.now c.add_items.new.fields c.in-Ok-read_info.list is (subst (λ (x : List ℕ). IsInfo x c.in-Ok-read_info.list) same info)
    (omega (arith, ap length c.as_slice-items.ensures)) (omega (arith, c.if-parts-count-gt-MOST_PARTS.false))
    (subst (λ (x : List InfoItem). Grows c.args.fields.now c.add_items.new.fields (items_held x)) c.as_slice-items.ensures c.in-Ok-add_items.ensures)
