use Rattle.std.proofs.Common.{◌≡◌, ◌∙◌, ◌++◌, ap, false, rules, true, List}
use Rattle.std.specs.List.Sorted.{IsNonDecreasingBy}
use Rattle.std.proofs.lemmas.List.Sorted.{IsNonDecreasingBy-from_sort_by_key}
use Rattle.part_tree.specs.declared.names.Span.{Span}
use Rattle.avi_file.specs.declared.index.IndexChunk.{IndexChunk}
use Rattle.edit_planner.specs.TablesAt.{chunks_of}
use Rattle.edit_planner.proofs.AviTables.{chunks_sorted}
use Rattle.edit_planner.proofs.tables.sorted_chunks.Goals as goal

pub returns-in-Ok : goal.returns-in-Ok
returns-in-Ok c = λ b mapped.
    let up : IsNonDecreasingBy (λ x. x.body.at) c.sort_by_key.new.self.items = IsNonDecreasingBy-from_sort_by_key (λ (x : IndexChunk). x.body.at) _ c.in-Ok.ensures.sorted (λ a r q k. search rules) in
    let all =
    c.in_ok-push_chunks-2.ensures
    ∙ ap (λ (xs : List IndexChunk). xs ++ chunks_of true c.deref-2.result.now) (c.in_ok-push_chunks.ensures ∙ ap (λ (xs : List IndexChunk). xs ++ chunks_of false c.deref.result.now) c.new-chunks.ensures.items)
    in
    chunks_sorted b c.deref.result.now c.deref-2.result.now c.push_chunks-2.new.chunks.items c.sort_by_key.new.self.items (c.deref.ensures.value ∙ mapped.supers_are) (c.deref-2.ensures.value ∙ mapped.standards_are) all
    c.in-Ok.ensures.permutation up
