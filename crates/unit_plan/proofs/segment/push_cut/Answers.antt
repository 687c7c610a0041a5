use Rattle.std.proofs.Common.{arith, ap, ◌∙◌, ◌≡◌, ◌++◌, ℕ, List, append_assoc}
use Rattle.std.specs.List.{flat_map}
use Rattle.part_tree.specs.Plans.{segment_bytes}
use Rattle.unit_plan.proofs.segment.push_cut.Goals as goal

three : (old one two new a b c d : List ℕ) → one ≡ old ++ a → two ≡ one ++ d → d ≡ b → new ≡ two ++ c → new ≡ old ++ (a ++ (b ++ c))
three old one two new a b c d e f g h = h ∙ ap (λ x. x ++ c) (f ∙ ap (λ x. x ++ d) e ∙ ap (λ x. (old ++ a) ++ x) g) ∙ regroup old a b c
  where
    regroup : (old a b c : List ℕ) → ((old ++ a) ++ b) ++ c ≡ old ++ (a ++ (b ++ c))
    regroup old a b c = simp append_assoc

pub returns-clause-bytes : goal.returns-clause-bytes
returns-clause-bytes c = λ ms b.
    three (flat_map (segment_bytes ms b) c.args.segments.now.items) (flat_map (segment_bytes ms b) c.push_copy.new.segments.items) (flat_map (segment_bytes ms b) c.push_literal.new.segments.items) (flat_map (segment_bytes ms b) c.push_copy-2.new.segments.items)
    _ c.args.cut.now.bytes _ c.as_slice.result.now
    (c.in_ok-push_copy.ensures.bytes ms b) (c.in_ok-push_literal.ensures.bytes ms b) c.as_slice.ensures (c.in_ok-push_copy-2.ensures.bytes ms b)

pub returns-clause-inside : goal.returns-clause-inside
returns-clause-inside c = λ b inside h.
    c.in_ok-push_copy-2.ensures.inside b (omega (arith, inside, c.requires.keep)) (c.in_ok-push_literal.ensures.inside b (c.in_ok-push_copy.ensures.inside b (omega (arith, inside, c.requires.before)) h))
