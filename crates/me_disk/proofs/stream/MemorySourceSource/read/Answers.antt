use Rattle.std.proofs.Common.{◌≡◌, ◌-◌, ◌∙◌, ℕ, List, take, drop, length, min, ap, sym}
use Rattle.me_disk.specs.Streams.{SourceBytes}
use Rattle.me_disk.proofs.Fronts.{gives_front}
use Rattle.me_disk.proofs.stream.MemorySourceSource.read.Goals as goal

pub returns-clause-bytes : goal.returns-clause-bytes
returns-clause-bytes c =
    let at = c.self.inside.at in
    let items = c.self.inside.bytes.items in
    let is : c.deref.result.now ≡ items = c.deref.ensures.value in
    let rest = λ (xs : List ℕ). take (length xs - at) (drop at xs) in
    let left : c.args.self.now.left ≡ drop at items = ap (λ (s : SourceBytes). s.left) (sym c.self.view_is) in
    let gives = gives_front items c.fill-count.new.into at c.fill-count.result (length c.args.into.now) c.self.invariant c.fill-count.auto.into
    (c.fill-count.ensures.count ∙ ap (λ (xs : List ℕ). min (length (rest xs)) (length c.args.into.now)) is)
    (c.fill-count.ensures.front ∙ ap (λ (xs : List ℕ). take c.fill-count.result (rest xs)) is) in
    (left ∙ gives.0, gives.1)
