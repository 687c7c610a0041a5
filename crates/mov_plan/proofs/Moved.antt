-- Ranges between spans, one more at a time.
use Rattle.std.proofs.Common.{◌≡◌, ◌∙◌, ℕ, ◌+◌, ◌-◌, ◌≤◌, ◌<◌, ◌^◌, List, [], ◌∷◌, ◌++◌, length, map, take, drop, get_or, sym, ap, arith, append_assoc, length-append, length-take, length-drop}
use Rattle.std.specs.Prelude.{IfOk, Result}
use Rattle.std.specs.declared.result.Result.TheVariants.{Ok, Err}
use Rattle.part_tree.specs.Moves.{Ascend, Move}
use Rattle.carrier_model.specs.Gaps.{between}
use Rattle.unit_plan.specs.declared.cut.CutAt.{CutAt}
use Rattle.unit_plan.specs.Cuts.{cut_in}
use Rattle.unit_plan.proofs.Spans.{next_item}
use Rattle.mov_plan.specs.Moved.{AscendTo, IsKeptIn}

pub to_more : (low end : ℕ) (ms : List Move) (m : Move) → AscendTo low ms m.0.at → m.0.at + m.0.len < 2 ^ 63 → m.1 + m.0.len < 2 ^ 63 → m.0.at + m.0.len ≤ end → AscendTo low (ms ++ m ∷ []) end
to_more low end [] m h a b le = (h, a, b, le)
to_more low end (x ∷ ms) m h a b le = (h.0, h.1, h.2, to_more (x.0.at + x.0.len) end ms m h.3 a b le)

pub ranges_ascend : (low end : ℕ) (ms : List Move) → AscendTo low ms end → Ascend low ms
ranges_ascend low end [] h = tt
ranges_ascend low end (m ∷ ms) h = (h.0, h.1, h.2, ranges_ascend (m.0.at + m.0.len) end ms h.3)

-- how long what stands in the place of a span is
pub cut_long : (b : List ℕ) (len : ℕ) (k : CutAt) → length b ≡ len → IsKeptIn len k → length (cut_in b k).bytes ≡ length k.bytes + k.keep
cut_long b len k is h =
    let tail = drop (k.span.at + k.span.len - k.keep) b in
    omega (arith, length-append k.bytes (take k.keep tail), length-take k.keep tail, length-drop (k.span.at + k.span.len - k.keep) b, is, h.0, h.1)

-- a span more: the range before it, and what is left behind it
pub between_more : (b : List ℕ) (len at to next : ℕ) (ks : List CutAt) (i : ℕ) (k : CutAt) (held new : List Move) (all : List Move) → i < length ks → k ≡ get_or ks i k
    → length b ≡ len → IsKeptIn len k
    → new ≡ held ++ (record { at = at; len = k.span.at - at }, to) ∷ [] → next ≡ to + (k.span.at - at) + (length k.bytes + k.keep)
    → held ++ between at to (map (cut_in b) (drop i ks)) len ≡ all
    → new ++ between (k.span.at + k.span.len) next (map (cut_in b) (drop (i + 1) ks)) len ≡ all
between_more b len at to next ks i k held new all lt e is kept put go h =
    let m : Move = (record { at = at; len = k.span.at - at }, to) in
    let rest = map (cut_in b) (drop (i + 1) ks) in
    ap (λ (ms : List Move). ms ++ between (k.span.at + k.span.len) next rest len) put
    ∙ append_assoc held (m ∷ []) (between (k.span.at + k.span.len) next rest len)
    ∙ ap (λ (n : ℕ). held ++ m ∷ between (k.span.at + k.span.len) n rest len) (go ∙ ap (λ (j : ℕ). to + (k.span.at - at) + j) (sym (cut_long b len k is kept)))
    ∙ ap (λ (js : List CutAt). held ++ between at to (map (cut_in b) js) len) (sym (next_item ks i k lt e))
    ∙ h

-- what holds of a result, where something else does
pub if_ok : {T E : Type 0} (P Q : T → Type 0) (r : Result T E) → ((x : T) → P x → Q x) → IfOk r P → IfOk r Q
if_ok P Q (Ok x) f h = f x h
if_ok P Q (Err e) f h = tt
