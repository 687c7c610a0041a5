use Rattle.std.proofs.Common.{◌≡◌, ◌∙◌, List, map, rules, subst}
use Rattle.std.specs.List.Sorted.{IsNonDecreasingBy, IsPermutation}
use Rattle.std.proofs.lemmas.List.Sorted.{IsNonDecreasingBy-from_sort_by_key}
use Rattle.avi_model.specs.Support.{by_place as placed}
use Rattle.avi_file.specs.declared.index.IndexChunk.{IndexChunk}
use Rattle.avi_file.specs.Indexes.{IsSoundChunk, kept_of}
use Rattle.avi_file.proofs.Placing.{moved_all, sorted_is, apart_fault}
use Rattle.avi_file.proofs.order.by_place.Goals as goal

pub returns-in-Err-check_apart-clause-order : goal.returns-in-Err-check_apart-clause-order
returns-in-Err-check_apart-clause-order c b ts all same =
    let ys = c.sort_by_key.new.self.items in
    let up : IsNonDecreasingBy (λ x. x.body.at) ys = IsNonDecreasingBy-from_sort_by_key (λ (x : IndexChunk). x.body.at) _ c.in-Ok-sort_by_key.ensures.sorted (λ a r q k. search rules) in
    let moves : IsPermutation c.args.chunks.now ys = subst (λ (xs : List IndexChunk). IsPermutation xs ys) c.in-Ok.ensures.items c.in-Ok-sort_by_key.ensures.permutation in
    let sorted : ys ≡ map kept_of (placed ts) = sorted_is b ts c.args.chunks.now ys all same moves up in
    apart_fault ts c.in-Err-check_apart.fault (c.in-Err-check_apart.ensures.apart (placed ts) (c.deref.ensures.value ∙ sorted))

pub returns-in-Ok-check_apart-clause-order : goal.returns-in-Ok-check_apart-clause-order
returns-in-Ok-check_apart-clause-order c b ts all same =
    let ys = c.sort_by_key.new.self.items in
    let up : IsNonDecreasingBy (λ x. x.body.at) ys = IsNonDecreasingBy-from_sort_by_key (λ (x : IndexChunk). x.body.at) _ c.in-Ok-sort_by_key.ensures.sorted (λ a r q k. search rules) in
    let moves : IsPermutation c.args.chunks.now ys = subst (λ (xs : List IndexChunk). IsPermutation xs ys) c.in-Ok.ensures.items c.in-Ok-sort_by_key.ensures.permutation in
    let sorted : ys ≡ map kept_of (placed ts) = sorted_is b ts c.args.chunks.now ys all same moves up in
    (c.in-Ok-check_apart.ensures.apart (placed ts) (c.deref.ensures.value ∙ sorted), sorted)

pub returns-in-Ok-check_apart-clause-sound : goal.returns-in-Ok-check_apart-clause-sound
returns-in-Ok-check_apart-clause-sound c =
    let ys = c.sort_by_key.new.self.items in
    let moves : IsPermutation c.args.chunks.now ys = subst (λ (xs : List IndexChunk). IsPermutation xs ys) c.in-Ok.ensures.items c.in-Ok-sort_by_key.ensures.permutation in
    moved_all IsSoundChunk c.args.chunks.now ys moves c.requires.sound
