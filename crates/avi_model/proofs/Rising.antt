-- The bodies of the movi lists ascend.
use Rattle.std.proofs.Common.{◌≡◌, ℕ, ◌+◌, ◌≤◌, Bool, true, false, cond, List, [], ◌∷◌, ◌++◌, length, map, refl, sym, ap, subst, arith}
use Rattle.std.specs.List.{flat_map, AllByRecursion}
use Rattle.std.proofs.lemmas.List.{length-append}
use Rattle.me_bytes.specs.Bytes.{IsBytes}
use Rattle.part_tree.specs.declared.names.Span.{Span}
use Rattle.part_tree.specs.Ranges.{Ascends}
use Rattle.container_model.specs.Chunk.{Chunk, header_bytes, spell, spell_all}
use Rattle.container_model.specs.Stood.{Stood, bare, stood, only}
use Rattle.carrier_model.specs.Info.{list_run}
use Rattle.avi_model.specs.Avi.{avi_of, kids, top, others_at, is_movi, body_span}
use Rattle.avi_model.specs.Support.{Supported, movi_spans}
use Rattle.avi_model.proofs.Among.{all_among}
use Rattle.avi_model.proofs.Levels.{Ended, top_heads, further_whole, others_begin}
use Rattle.avi_model.proofs.Lies.{Whole, kids_heads, kids_end}
use Rattle.avi_model.proofs.Read.{others_place}
use Rattle.avi_model.proofs.Sound.{ended}
use Rattle.avi_model.proofs.Walk.{IsRiffHead}

-- ranges that ascend from a place on, up to another
abbrev Between : ℕ → List Span → ℕ → Type 0
Between from [] to = from ≤ to
Between from (s ∷ ss) to = (from ≤ s.at) × Between (s.at + s.len) ss to

ascend : (from to : ℕ) (ss : List Span) → Between from ss to → Ascends from ss
ascend from to [] h = tt
ascend from to (s ∷ ss) h = (h.0, ascend (s.at + s.len) to ss h.1)

wider : (from early to late : ℕ) (ss : List Span) → early ≤ from → to ≤ late → Between from ss to → Between early ss late
wider from early to late [] a b h = omega (arith, a, b, h)
wider from early to late (s ∷ ss) a b h = (omega (arith, a, h.0), wider (s.at + s.len) (s.at + s.len) to late ss (omega arith) b h.1)

both : (from mid to : ℕ) (xs ys : List Span) → Between from xs mid → Between mid ys to → Between from (xs ++ ys) to
both from mid to [] ys h g = wider mid from to to ys h (omega arith) g
both from mid to (s ∷ xs) ys h g = (h.0, both (s.at + s.len) mid to xs ys h.1 g)

-- the bodies of chunks that meet a test
kept_order : (p : Chunk → Bool) (at : ℕ) (cs : List Chunk) → AllByRecursion IsRiffHead (stood at cs) → Between at (map body_span (only p (stood at cs))) (at + length (spell_all cs))
kept_order p at [] h = omega arith
kept_order p at (c ∷ cs) h = go (p (bare c)) (kept_order p (at + length (spell c)) cs h.1)
  where
    long : length (spell_all (c ∷ cs)) ≡ length (spell c) + length (spell_all cs)
    long = length-append (spell c) (spell_all cs)

    go : (t : Bool) → Between (at + length (spell c)) (map body_span (only p (stood (at + length (spell c)) cs))) (at + length (spell c) + length (spell_all cs))
        → Between at (map body_span (cond t (record { at = at; chunk = bare c } ∷ only p (stood (at + length (spell c)) cs)) (only p (stood (at + length (spell c)) cs)))) (at + length (spell_all (c ∷ cs)))
    go true g = (omega arith, wider (at + length (spell c)) (at + 8 + length c.body) _ _ _ (omega (arith, h.0, ends)) (omega (arith, long)) g)
      where
        ends : length (spell c) ≡ length (header_bytes c.form c.id (length c.body)) + (length c.body + length c.pad)
        ends = omega (arith, length-append (header_bytes c.form c.id (length c.body)) (c.body ++ c.pad), length-append c.body c.pad)
    go false g = wider (at + length (spell c)) at _ _ _ (omega arith) (omega (arith, long)) g

-- those in the chunks of a list or a form
inside_order : (p : Chunk → Bool) (x : Stood) → Whole x → Between (x.at + 12) (map body_span (only p (kids x))) (x.at + 8 + length x.chunk.body)
inside_order p x w =
    let run = list_run x.chunk in
    wider (x.at + 12) (x.at + 12) _ _ (map body_span (only p (kids x))) (omega arith) (omega (arith, kids_end x w.bytes w.long, length-append (spell_all run.chunks) run.left)) (kept_order p (x.at + 12) run.chunks (kids_heads x))

map_both : (xs ys : List Stood) → map body_span (xs ++ ys) ≡ map body_span xs ++ map body_span ys
map_both [] ys = refl
map_both (x ∷ xs) ys = ap (λ (ss : List Span). body_span x ∷ ss) (map_both xs ys)

-- those in lists or forms that follow each other
lists_order : (p : Chunk → Bool) (at : ℕ) (cs : List Chunk) → AllByRecursion Whole (stood at cs) → Between at (map body_span (flat_map (λ x. only p (kids x)) (stood at cs))) (at + length (spell_all cs))
lists_order p at [] h = omega arith
lists_order p at (c ∷ cs) h =
    let x : Stood = record { at = at; chunk = bare c } in
    let head = header_bytes c.form c.id (length c.body) in
    let one = wider (at + 12) at (at + 8 + length c.body) (at + length (spell c)) (map body_span (only p (kids x))) (omega arith) (omega (arith, h.0.head, length-append head (c.body ++ c.pad), length-append c.body c.pad)) (inside_order p x h.0) in
    let more = wider (at + length (spell c)) (at + length (spell c)) (at + length (spell c) + length (spell_all cs)) (at + length (spell_all (c ∷ cs))) (map body_span (flat_map (λ x. only p (kids x)) (stood (at + length (spell c)) cs))) (omega arith) (omega (arith, length-append (spell c) (spell_all cs))) (lists_order p (at + length (spell c)) cs h.1) in
    subst (λ (ss : List Span). Between at ss (at + length (spell_all (c ∷ cs)))) (sym (map_both (only p (kids x)) (flat_map (λ x. only p (kids x)) (stood (at + length (spell c)) cs))))
    (both at (at + length (spell c)) (at + length (spell_all (c ∷ cs))) (map body_span (only p (kids x))) (map body_span (flat_map (λ x. only p (kids x)) (stood (at + length (spell c)) cs))) one more)

-- In a supported file they ascend.
pub movis_ascend : (b : List ℕ) → IsBytes b → Supported b → Ascends 0 (movi_spans (avi_of b))
movis_ascend b bytes s =
    let a = avi_of b in
    let g : Ended (avi_of b) = ended b bytes s in
    let first = map body_span (only is_movi (top a)) in
    let more = map body_span (flat_map (λ x. only is_movi (kids x)) (others_at a)) in
    let one = wider 12 0 (12 + length (spell_all a.children)) (others_place a) first (omega arith) (omega (arith, others_begin a g, length-append (spell_all a.children) a.left)) (kept_order is_movi 12 a.children (top_heads a g)) in
    let two = lists_order is_movi (others_place a) a.others (all_among Whole (others_at a) (further_whole a g)) in
    subst (Ascends 0) (sym (map_both (only is_movi (top a)) (flat_map (λ x. only is_movi (kids x)) (others_at a))))
    (ascend 0 (others_place a + length (spell_all a.others)) (first ++ more) (both 0 (others_place a) (others_place a + length (spell_all a.others)) first more one two))
