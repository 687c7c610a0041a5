-- The items of a list as parts, one after the other.
use Rattle.std.proofs.Common.{◌≡◌, ◌∙◌, ℕ, ◌+◌, ◌≤◌, List, [], ◌∷◌, ◌++◌, length, sym, ap, arith, append_assoc, length-append}
use Rattle.std.specs.Prelude.{Result, OnOk}
use Rattle.std.specs.declared.result.Result.TheVariants.{Ok, Err}
use Rattle.part_tree.specs.Parts.{rest_parts}
use Rattle.part_tree.specs.declared.names.FourCc.{FourCc}
use Rattle.part_tree.specs.declared.names.Span.{Span}
use Rattle.part_tree.specs.declared.part.Part.{Part}
use Rattle.part_tree.specs.declared.part.Role.TheVariants.{Opaque}
use Rattle.container_model.specs.Chunk.{Chunk, Run, riff, spell, spell_all, and_then, stopped, ends, passes}
use Rattle.container_model.specs.Written.{slice}
use Rattle.container_model.proofs.Written.{length-slice}
use Rattle.riff_form.specs.declared.ChunkAt.{ChunkAt}
use Rattle.riff_form.specs.Walk.{InOrder, chunk_in}
use Rattle.wave_model.specs.Map.{body_span, item_parts, list_parts, part}

-- one item, and those behind it
items_next : (at to : ℕ) (rest next : Run) (c : Chunk) → rest ≡ and_then c next → at + length (spell c) ≡ to → list_parts at rest ≡ part Opaque at c ∷ list_parts to next
items_next at to rest next c step place =
    let end : at + length (spell c ++ spell_all next.chunks) ≡ to + length (spell_all next.chunks) = omega (arith, length-append (spell c) (spell_all next.chunks)) in
    ap (list_parts at) step
    ∙ ap (λ (p : ℕ). part Opaque at c ∷ (item_parts (at + length (spell c)) next.chunks ++ rest_parts p next.left)) end
    ∙ ap (λ (p : ℕ). part Opaque at c ∷ (item_parts p next.chunks ++ rest_parts (to + length (spell_all next.chunks)) next.left)) place

items_last : (at : ℕ) (rest : Run) (bytes : List ℕ) → rest ≡ stopped ends bytes → list_parts at rest ≡ rest_parts at bytes
items_last at rest bytes e = let here : at + 0 ≡ at = omega arith in ap (list_parts at) e ∙ ap (λ (p : ℕ). rest_parts p bytes) here

-- an item as it is told
abbrev told : FourCc → ℕ → Span → ℕ → Part
told id at body next = record { id = id; at = at; body = body; next = next; role = Opaque }

abbrev span : ℕ → ℕ → Span
span at len = record { at = at; len = len }

pub part_is : (b : List ℕ) (at end : ℕ) (k : ChunkAt) → end ≤ length b → InOrder at end k → at + length (spell (chunk_in b riff k)) ≡ k.next → told k.id k.at k.body k.next ≡ part Opaque at (chunk_in b riff k)
part_is b at end k inside order place =
    let long : length (slice b k.body.at k.body.len) ≡ k.body.len = length-slice b k.body.at k.body.len (omega (arith, order.whole, order.last, inside)) in
    let body : k.body ≡ body_span at (chunk_in b riff k) = ap (λ (x : ℕ). span x k.body.len) order.body ∙ ap (λ (x : ℕ). span (at + 8) x) (sym long) in
    ap (λ (p : ℕ). told k.id p k.body k.next) order.begins ∙ ap (λ (s : Span). told k.id at s k.next) body ∙ ap (λ (n : ℕ). told k.id at (body_span at (chunk_in b riff k)) n) (sym place)

-- what is told so far, with what is left
pub next_left : (at to : ℕ) (rest next : Run) (c : Chunk) (now new whole : List Part) (item : Part) → rest ≡ and_then c next → at + length (spell c) ≡ to → new ≡ now ++ item ∷ [] → item ≡ part Opaque at c → now ++ list_parts at rest ≡ whole
    → new ++ list_parts to next ≡ whole
next_left at to rest next c now new whole item step place n is left =
    ap (λ (x : List Part). x ++ list_parts to next) n
    ∙ append_assoc now (item ∷ []) (list_parts to next)
    ∙ ap (λ (x : Part). now ++ (x ∷ list_parts to next)) is
    ∙ ap (λ (x : List Part). now ++ x) (sym (items_next at to rest next c step place))
    ∙ left

pub last_left : (at : ℕ) (rest : Run) (bytes : List ℕ) (now new whole : List Part) → rest ≡ stopped ends bytes → now ++ list_parts at rest ≡ whole → new ≡ now ++ rest_parts at bytes → new ≡ whole
last_left at rest bytes now new whole e left n = n ∙ ap (λ (x : List Part). now ++ x) (sym (items_last at rest bytes e)) ∙ left

pub next_ends : (rest next : Run) (c : Chunk) → rest ≡ and_then c next → rest.stop ≡ ends → next.stop ≡ ends
next_ends rest next c step w = ap (λ (r : Run). r.stop) (sym step) ∙ w

pub never_cut : (rest : Run) (bytes : List ℕ) → rest.stop ≡ ends → rest ≡ stopped passes bytes → ⊥
never_cut rest bytes w e = let clash : passes ≡ ends = ap (λ (r : Run). r.stop) (sym e) ∙ w in cc

-- what holds at Ok follows from what holds at Ok
pub ok_then : {T E : Type 0} {P Q : Type 0} (r : Result T E) → (P → Q) → OnOk r P → OnOk r Q
ok_then (Ok x) f h = f h
ok_then (Err e) f h = tt
