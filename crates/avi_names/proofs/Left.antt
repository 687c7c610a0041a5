-- What is left of the chunks of a stream's list.
use Rattle.std.proofs.Common.{◌≡◌, ◌∙◌, ℕ, ◌+◌, ◌≤◌, Bool, true, false, cond, List, [], ◌∷◌, ◌++◌, length, refl, sym, ap, arith, append_assoc}
use Rattle.std.proofs.lemmas.List.{append-nil}
use Rattle.part_tree.specs.declared.names.Span.{Span}
use Rattle.container_model.specs.Chunk.{Chunk, Run, spell, and_then, stopped, ends, passes}
use Rattle.container_model.specs.Chunk.{riff}
use Rattle.container_model.specs.Written.{slice}
use Rattle.container_model.proofs.Written.{length-slice}
use Rattle.riff_form.specs.declared.ChunkAt.{ChunkAt}
use Rattle.riff_form.specs.Walk.{InOrder, chunk_in, row}
use Rattle.carrier_model.specs.Names.{is_name, is_head}
use Rattle.avi_names.specs.Names.{EndBy, names_from, behind_heads, chunks_of, names_of, new_place}

-- the names that were found, and those of the chunks from a place on, are all
pub record NamesLeft (at : ℕ) (rest : Run) (found all : List Span) : Type 0 where
  pub names : found ++ names_from at rest.chunks ≡ all
  pub whole : rest.stop ≡ ends

-- a chunk that is passed
pub record Passes (at to : ℕ) (rest next : Run) (c : Chunk) : Type 0 where
  pub step : rest ≡ and_then c next
  pub place : at + length (spell c) ≡ to

whole_next : (at to : ℕ) (rest next : Run) (c : Chunk) → Passes at to rest next c → rest.stop ≡ ends → next.stop ≡ ends
whole_next at to rest next c p w = ap (λ (r : Run). r.stop) (sym p.step) ∙ w

names_next : (at to : ℕ) (rest next : Run) (c : Chunk) → Passes at to rest next c → names_from at rest.chunks ≡ cond (is_name c) (record { at = at + 8; len = length c.body } ∷ names_from to next.chunks) (names_from to next.chunks)
names_next at to rest next c p =
    ap (λ (r : Run). names_from at r.chunks) p.step
    ∙ ap (λ (q : ℕ). cond (is_name c) (record { at = at + 8; len = length c.body } ∷ names_from q next.chunks) (names_from q next.chunks)) p.place

pub named : (at to : ℕ) (rest next : Run) (c : Chunk) (span : Span) (found new all : List Span) → NamesLeft at rest found all → Passes at to rest next c → is_name c ≡ true → span ≡ record { at = at + 8; len = length c.body } → new ≡ found ++ span ∷ []
    → NamesLeft to next new all
named at to rest next c span found new all left p is s n = record {
  names = ap (λ (x : List Span). x ++ names_from to next.chunks) n
      ∙ append_assoc found (span ∷ []) (names_from to next.chunks)
      ∙ ap (λ (x : Span). found ++ (x ∷ names_from to next.chunks)) s
      ∙ ap (λ (t : Bool). found ++ cond t (record { at = at + 8; len = length c.body } ∷ names_from to next.chunks) (names_from to next.chunks)) (sym is)
      ∙ ap (λ (x : List Span). found ++ x) (sym (names_next at to rest next c p))
      ∙ left.names;
  whole = whole_next at to rest next c p left.whole;
}

pub unnamed : (at to : ℕ) (rest next : Run) (c : Chunk) (found all : List Span) → NamesLeft at rest found all → Passes at to rest next c → is_name c ≡ false → NamesLeft to next found all
unnamed at to rest next c found all left p is = record {
  names = ap (λ (t : Bool). found ++ cond t (record { at = at + 8; len = length c.body } ∷ names_from to next.chunks) (names_from to next.chunks)) (sym is)
      ∙ ap (λ (x : List Span). found ++ x) (sym (names_next at to rest next c p))
      ∙ left.names;
  whole = whole_next at to rest next c p left.whole;
}

pub all_named : (at : ℕ) (rest : Run) (bytes : List ℕ) (found all : List Span) → NamesLeft at rest found all → rest ≡ stopped ends bytes → found ≡ all
all_named at rest bytes found all left e = sym (append-nil found) ∙ ap (λ (r : Run). found ++ names_from at r.chunks) (sym e) ∙ left.names

pub never_cut : (rest : Run) (bytes : List ℕ) → rest.stop ≡ ends → rest ≡ stopped passes bytes → ⊥
never_cut rest bytes w e = let clash : passes ≡ ends = ap (λ (r : Run). r.stop) (sym e) ∙ w in cc

-- ---- where a new name stands

pub record PlaceLeft (at : ℕ) (rest : Run) (found place : ℕ) : Type 0 where
  pub behind : behind_heads found at rest.chunks ≡ place
  pub whole : rest.stop ≡ ends

pub placed : (at to : ℕ) (rest next : Run) (c : Chunk) (found new place : ℕ) (t : Bool) → PlaceLeft at rest found place → Passes at to rest next c → t ≡ is_head c → new ≡ cond t to found → PlaceLeft to next new place
placed at to rest next c found new place t left p is n = record {
  behind = ap (λ (x : ℕ). behind_heads x to next.chunks) n
      ∙ ap (λ (u : Bool). behind_heads (cond u to found) to next.chunks) is
      ∙ ap (λ (q : ℕ). behind_heads (cond (is_head c) q found) q next.chunks) (sym p.place)
      ∙ ap (λ (r : Run). behind_heads found at r.chunks) (sym p.step)
      ∙ left.behind;
  whole = whole_next at to rest next c p left.whole;
}

pub all_placed : (at : ℕ) (rest : Run) (bytes : List ℕ) (found place : ℕ) → PlaceLeft at rest found place → rest ≡ stopped ends bytes → found ≡ place
all_placed at rest bytes found place left e = ap (λ (r : Run). behind_heads found at r.chunks) (sym e) ∙ left.behind

-- ---- where names end

pub end_more : (end : ℕ) (ss : List Span) (s : Span) → EndBy end ss → s.at + s.len ≤ end → EndBy end (ss ++ s ∷ [])
end_more end [] s all one = (one, tt)
end_more end (t ∷ ts) s all one = (all.0, end_more end ts s all.1 one)

-- ---- before the first chunk, and one chunk

pub names_start : (b : List ℕ) (at end : ℕ) (s : Span) (items : List Span) → at ≡ s.at → end ≡ s.at + s.len → items ≡ [] → (chunks_of b s).stop ≡ ends → NamesLeft at (row b at end) items (names_of b s)
names_start b at end s items a e i w = rw (a, e, i) (record { names = refl; whole = w })

pub place_start : (b : List ℕ) (at end : ℕ) (s : Span) → at ≡ s.at → end ≡ s.at + s.len → (chunks_of b s).stop ≡ ends → PlaceLeft at (row b at end) s.at (new_place b s)
place_start b at end s a e w = rw (a, e) (record { behind = refl; whole = w })

abbrev span : ℕ → ℕ → Span
span at len = record { at = at; len = len }

pub body_is : (b : List ℕ) (at end : ℕ) (k : ChunkAt) → end ≤ length b → InOrder at end k → k.body ≡ record { at = at + 8; len = length (chunk_in b riff k).body }
body_is b at end k inside order =
    let long : length (slice b k.body.at k.body.len) ≡ k.body.len = length-slice b k.body.at k.body.len (omega (arith, order.whole, order.last, inside)) in
    ap (λ (x : ℕ). span x k.body.len) order.body ∙ ap (λ (x : ℕ). span (at + 8) x) (sym long)
