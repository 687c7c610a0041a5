-- What is known of standard indexes and of entries that count from the start.
use Rattle.std.proofs.Common.{◌≡◌, ℕ, ◌+◌, ◌<◌, ◌≤◌, Bool, true, false, ltb, leb, List, [], ◌∷◌, ◌++◌, length, refl, sym, ap, subst, arith, inl, inr}
use Rattle.std.specs.Prelude.{◌⊎◌, ◌&&◌, ◌||◌, not}
use Rattle.std.specs.List.{flat_map}
use Rattle.std.proofs.lemmas.Bool.{and_parts, leb-true, ltb-true}
use Rattle.container_model.specs.Stood.{Stood, only}
use Rattle.container_model.proofs.Codec.{IsBytes}
use Rattle.part_tree.specs.declared.names.Span.{Span}
use Rattle.avi_model.specs.Avi.{avi_of, kids, others_at, is_movi, body_span, first_span, first_movi}
use Rattle.container_model.specs.Tables.{Table}
use Rattle.opendml_index.specs.Index.{is_super, entry_offset, entry_length, entry_second, has_second}
use Rattle.avi_model.specs.Index.{named_by, streams, indexes}
use Rattle.part_tree.specs.Ranges.{within}
use Rattle.avi_model.specs.Support.{Supported, movis}
use Rattle.opendml_index.specs.Kinds.{SoundIndex, is_index_kind, is_standard_kind, second_lies}
use Rattle.opendml_index.proofs.Known.{standard_index}
use Rattle.avi_model.proofs.Among.{Among, among_all, among_append, among_front}
use Rattle.avi_model.proofs.Sound.{Holder, named_from, named_place}

pub index_kind_of : (o : List ℕ) (bytes : IsBytes o) (s : Supported o) (t : Table) → Among t (indexes o) → is_super t.body ≡ false → is_standard_kind t.body ≡ true
index_kind_of o bytes s t i e = go (among_append (streams o) (flat_map (named_by o) (streams o)) t i)
  where
    go : Among t (streams o) ⊎ Among t (flat_map (named_by o) (streams o)) → is_standard_kind t.body ≡ true
    go (inl j) = standard_index t.body (among_all (λ t. SoundIndex is_index_kind t.body) (streams o) s.streams_sound t j).kind_is e
    go (inr j) = let k = named_from o bytes s t j in subst (λ (u : Table). is_standard_kind u.body ≡ true) k.is_named (named_place o bytes s t k).sound.kind_is

pub second_of : (r : List ℕ) → second_lies r ≡ true → has_second r ≡ true → (entry_offset r ≤ entry_second r) × (entry_second r < entry_offset r + entry_length r)
second_of r e h =
    let p : (leb (entry_offset r) (entry_second r) && ltb (entry_second r) (entry_offset r + entry_length r)) ≡ true = subst (λ (b : Bool). (not b || (leb (entry_offset r) (entry_second r) && ltb (entry_second r) (entry_offset r + entry_length r))) ≡ true) h e in
    let q = and_parts (leb (entry_offset r) (entry_second r)) (ltb (entry_second r) (entry_offset r + entry_length r)) p in
    (leb-true (entry_offset r) (entry_second r) q.0, ltb-true (entry_second r) (entry_offset r + entry_length r) q.1)

-- a range in the first movi
pub first_holder : (o : List ℕ) → IsBytes o → Supported o → (p n : ℕ) → within (first_movi (avi_of o)) p n ≡ true → Holder (avi_of o) p n
first_holder o bytes s p n w = go (movis (avi_of o)) refl s.some_movi
  where
    rest : List Stood
    rest = flat_map (λ x. only is_movi (kids x)) (others_at (avi_of o))

    go : (xs : List Stood) → movis (avi_of o) ≡ xs → 0 < length xs → Holder (avi_of o) p n
    go [] e h = absurd (omega arith)
    go (m ∷ more) e h =
        let is : first_movi (avi_of o) ≡ body_span m = ap (λ (k : List Stood). first_span (k ++ flat_map (λ x. only is_movi (kids x)) (others_at (avi_of o)))) e in
        let x : within (body_span m) p n ≡ true = subst (λ (q : Span). within q p n ≡ true) is w in
        let q = and_parts (leb (m.at + 8) p) (leb (p + n) (m.at + 8 + length m.chunk.body)) x in
        let i : Among m (movis (avi_of o)) = subst (Among m) (sym e) (inl refl) in
        record { movi = m; movi_among = among_front (movis (avi_of o)) (flat_map (λ x. only is_movi (kids x)) (others_at (avi_of o))) m i; low = leb-true (m.at + 8) p q.0; high = leb-true (p + n) (m.at + 8 + length m.chunk.body) q.1 }
