use Rattle.std.proofs.Common.{rules, arith, ap, ◌∙◌, ◌≡◌, ◌++◌, ◌+◌, ◌-◌, ℕ, List, take, drop, append_assoc}
use Rattle.mov_plan.specs.Made.{made_of}
use Rattle.mov_plan.proofs.tables.Rewritten.push_cut.Goals as goal

three : (old one two new a b c d : List ℕ) → one ≡ old ++ a → two ≡ one ++ d → d ≡ b → new ≡ two ++ c → new ≡ old ++ (a ++ (b ++ c))
three old one two new a b c d e f g h = h ∙ ap (λ x. x ++ c) (f ∙ ap (λ x. x ++ d) e ∙ ap (λ x. (old ++ a) ++ x) g) ∙ regroup old a b c
  where
    regroup : (old a b c : List ℕ) → ((old ++ a) ++ b) ++ c ≡ old ++ (a ++ (b ++ c))
    regroup old a b c = simp append_assoc

pub returns-clause-bytes : goal.returns-clause-bytes
returns-clause-bytes c = λ ms b.
    let k = c.args.cut.now in
    let end : c.in-Some.end ≡ k.span.at + k.span.len = search rules in
    let keep : c.in-Some.end - (c.in-Some.end - k.keep) ≡ k.keep = omega (arith, end, c.requires) in
    let from : c.in-Some.end - k.keep ≡ k.span.at + k.span.len - k.keep = omega (arith, end) in
    let tail : take (c.in-Some.end - (c.in-Some.end - k.keep)) (drop (c.in-Some.end - k.keep) b) ≡ take k.keep (drop (k.span.at + k.span.len - k.keep) b)
    = ap (λ (n : ℕ). take n (drop (c.in-Some.end - k.keep) b)) keep ∙ ap (λ (n : ℕ). take k.keep (drop n b)) from in
    three (made_of ms b c.args.self.now) (made_of ms b c.copy_to.new.self) (made_of ms b c.push_bytes.new.self) (made_of ms b c.copy_to-2.new.self)
    _ k.bytes _ c.as_slice.result.now
    (c.in_ok-copy_to.ensures.bytes ms b) (c.in_ok-push_bytes.ensures.bytes ms b) c.as_slice.ensures (c.in_ok-copy_to-2.ensures.bytes ms b ∙ ap (λ (x : List ℕ). made_of ms b c.push_bytes.new.self ++ x) tail)

pub returns-clause-sound : goal.returns-clause-sound
returns-clause-sound c = λ b inside made.
    let k = c.args.cut.now in
    let end : c.in-Some.end ≡ k.span.at + k.span.len = search rules in
    let first = c.in_ok-copy_to.ensures.sound b (omega (arith, inside, end, c.in_ok-copy_to-2.ensures.at)) made in
    let second = c.in_ok-push_bytes.ensures.sound b first in
    c.in_ok-copy_to-2.ensures.sound b (omega (arith, inside, c.in_ok-copy_to-2.ensures.at)) (record { total = second.total; based = second.based; inside = second.inside })

pub returns-clause-named : goal.returns-clause-named
returns-clause-named c = λ ms b h. c.in_ok-copy_to-2.ensures.named ms b (c.in_ok-push_bytes.ensures.named ms b (c.in_ok-copy_to.ensures.named ms b h))
