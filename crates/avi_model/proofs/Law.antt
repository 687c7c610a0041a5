-- The pieces law for an edit: that the tables of the new file find what they found.
use Rattle.std.proofs.Common.{◌≡◌, ℕ, ◌+◌, ◌-◌, ◌<◌, ◌≤◌, List, [], ◌∷◌, ◌++◌, length, map, refl, sym, ap, ◌∙◌, arith}
use Rattle.std.specs.List.{flat_map, AllByRecursion}
use Rattle.std.proofs.lemmas.List.{length-append}
use Rattle.container_model.specs.Chunk.{header_bytes, spell}
use Rattle.container_model.specs.Stood.{Stood, only}
use Rattle.container_model.specs.Written.{slice, Write, written}
use Rattle.container_model.proofs.Written.{written_own, length-written, renew_alike}
use Rattle.container_model.proofs.Deep.{alike_len}
use Rattle.container_model.proofs.Stay.{Stays, rigid_part}
use Rattle.container_model.proofs.Copied.{Moves_as_one}
use Rattle.container_model.proofs.Stood.{Spelled, carried_to, renew_at}
use Rattle.part_tree.specs.declared.names.Span.{Span}
use Rattle.avi_model.specs.Avi.{Avi, avi_of, spell_avi, first_span, first_movi, top, is_movi, stream_indexes, old_indexes, others_at, kids}
use Rattle.container_model.specs.Tables.{table_of}
use Rattle.opendml_index.specs.Index.{move}
use Rattle.avi_model.specs.Index.{writes, write_old, streams, indexes, olds, base}
use Rattle.avi_index.specs.Rows.{old_body, old_rows, count16, old_row}
use Rattle.avi_model.specs.Pieces.{pieces}
use Rattle.avi_model.proofs.Numbers.{old_keeps}
use Rattle.avi_model.proofs.Read.{avi_again}
use Rattle.avi_model.proofs.Walk.{IsRiffHead}
use Rattle.avi_model.proofs.Laid.{IsLaid}
use Rattle.avi_model.proofs.Pieces.{moved_index, Rests, IndexFits, RowFits, RowStays, ClearStays, TablesMove, pieces_move}
use Rattle.avi_model.proofs.Follow.{Owns, StreamFine, streams_move, NamesFine, tables_move}

-- a chunk that is read in both files
pub spelled_stays : (o n : List ℕ) (f : ℕ → ℕ) (Ok : ℕ → Type 0) (ws : List Write) (x : Stood) → Spelled o (renew_at ws x) → Spelled n (carried_to f ws x) → Moves_as_one f Ok x → Stays o n f Ok x.at (length (spell x.chunk))
spelled_stays o n f Ok ws x a b r =
    let e : length (spell (Rattle.container_model.proofs.Written.renew ws x.at x.chunk)) ≡ length (spell x.chunk) = alike_len x.chunk (Rattle.container_model.proofs.Written.renew ws x.at x.chunk) (renew_alike ws x.at x.chunk) in
    record {
      lies = omega (arith, a.lies, e);
      same = ap (slice n (f x.at)) (sym e) ∙ b.bytes_are ∙ sym a.bytes_are ∙ ap (slice o x.at) e;
      rigid = r;
    }

module _ (o : List ℕ) (f : ℕ → ℕ) (Free : ℕ → Type 0) (after : Avi) (facts : IsLaid o f Free after) where
  abbrev a : Avi
  a = avi_of o

  abbrev ws : List Write
  ws = writes (move f) o

  abbrev n : List ℕ
  n = spell_avi after

  -- an idx1 whose write is there
  pub record OldFine (x : Stood) : Type 0 where
    pub head : IsRiffHead x
    pub owns : Owns ws (write_old (move f) (base o) (table_of x))

  -- what the law is proved from beside what is laid
  pub record TableFacts : Type 0 where
    pub streams_fine : AllByRecursion (StreamFine o n f Free facts.order ws) (stream_indexes a)
    pub names_fine : AllByRecursion (NamesFine o n f Free facts.order ws) (streams o)
    pub olds_fine : AllByRecursion OldFine (old_indexes a)
    pub movi_first : Stood
    pub movi_more : List Stood
    pub movi_is : only is_movi (top a) ≡ movi_first ∷ movi_more
    pub movi_head : IsRiffHead movi_first
    pub movi_some : 0 < length movi_first.chunk.body
    pub movi_grows : (first_movi a).at ≤ f (first_movi a).at
    pub clear_stays : ClearStays o n f Free facts.order (indexes o) (first_movi a)
    pub indexes_rest : AllByRecursion (Rests o n f Free facts.order) (indexes o)
    pub indexes_fit : AllByRecursion (IndexFits o n f Free facts.order) (indexes o)
    pub rows_fit : AllByRecursion (λ t. AllByRecursion (RowFits o n f Free facts.order (base o)) (old_rows t.body)) (olds o)
    pub rows_stay : AllByRecursion (λ t. AllByRecursion (RowStays o n f Free facts.order (base o) (indexes o)) (old_rows t.body)) (olds o)

  old_moves : (x : Stood) → OldFine x → table_of (carried_to f ws x) ≡ record { at = f ((x.at + 8) - 8) + 8; body = old_body f (base o) x.chunk.body }
  old_moves x h =
      let c = x.chunk in
      let back : x.at ≡ (x.at + 8) - 8 = omega arith in
      let at8 : x.at + Rattle.container_model.proofs.Written.head_length c ≡ x.at + 8 = omega (arith, h.head) in
      let own : written ws (x.at + 8) c.body ≡ old_body f (base o) c.body = written_own (write_old (move f) (base o) (table_of x)) ws c.body h.owns.is_there h.owns.alone (sym (Rattle.container_model.proofs.Written.length-map_rows 16 (old_row f (base o)) (count16 c.body) c.body (old_keeps (move f) (base o)))) in
      ap (λ (b : List ℕ). record { at = f x.at + 8; body = b }) (ap (λ (k : ℕ). written ws k c.body) at8 ∙ own) ∙ ap (λ (k : ℕ). record { at = f k + 8; body = old_body f (base o) c.body }) back

  olds_move : (xs : List Stood) → AllByRecursion OldFine xs → map table_of (map (carried_to f ws) xs) ≡ map (λ t. record { at = f (t.at - 8) + 8; body = old_body f (base o) t.body }) (map table_of xs)
  olds_move [] h = refl
  olds_move (x ∷ xs) h = rw (old_moves x h.0, olds_move xs h.1) refl

  pub reads : avi_of (spell_avi after) ≡ after
  reads = avi_again after facts.readable

  pub streams_are : TableFacts → streams (spell_avi after) ≡ map (moved_index o (spell_avi after) f Free facts.order) (streams o)
  streams_are t = ap (λ (x : Avi). map table_of (stream_indexes x)) reads ∙ ap (map table_of) facts.streams.0 ∙ streams_move o n f Free facts.order ws (stream_indexes a) t.streams_fine facts.streams.1

  pub tables_facts : TableFacts → TablesMove o (spell_avi after) f Free facts.order
  tables_facts t =
      let x = t.movi_first in
      let first : first_movi a ≡ record { at = x.at + 8; len = length x.chunk.body } = ap (λ (k : List Stood). first_span (k ++ flat_map (λ x. only is_movi (kids x)) (others_at a))) t.movi_is in
      let rigid : Moves_as_one f Free x = first_rigid x t.movi_more (rw t.movi_is at facts.movis.1) in
      let len : length (spell x.chunk) ≡ 8 + length (x.chunk.body ++ x.chunk.pad) = omega (arith, t.movi_head, length-append (header_bytes x.chunk.form x.chunk.id (length x.chunk.body)) (x.chunk.body ++ x.chunk.pad)) in
      let body = length-append x.chunk.body x.chunk.pad in
      let some = t.movi_some in
      let eight = rigid 8 (omega (arith, len, body, some)) in
      let moved : first_movi (avi_of n) ≡ record { at = f (x.at + 8); len = length x.chunk.body } =
      ap first_movi reads ∙ ap (λ (k : List Stood). first_span (k ++ flat_map (λ x. only is_movi (kids x)) (others_at after))) (facts.movis.0 ∙ ap (map (carried_to f ws)) t.movi_is)
      ∙ ap (λ (k : ℕ). record { at = f x.at + 8; len = k }) (length-written ws (x.at + Rattle.container_model.proofs.Written.head_length x.chunk) x.chunk.body) ∙ ap (λ (k : ℕ). record { at = k; len = length x.chunk.body }) (sym eight.1) in
      record {
        indexes_move = tables_move o n f Free facts.order ws (streams o) (streams n) (streams_are t) t.names_fine;
        olds_move = ap (λ (x : Avi). map table_of (old_indexes x)) reads ∙ ap (map table_of) facts.olds.0 ∙ olds_move (old_indexes a) t.olds_fine;
        movi_moves = moved ∙ ap (λ (k : Span). record { at = f k.at; len = k.len }) (sym first);
        movi_ok = rw first eight.0;
        movi_grows = t.movi_grows;
        movi_rigid = rw first (rigid_part f Free x.at (length (spell x.chunk)) 8 (length x.chunk.body) (omega (arith, len, body)) (omega (arith, len, body, some)) rigid);
        clear_stays = t.clear_stays;
        indexes_rest = t.indexes_rest;
        indexes_fit = t.indexes_fit;
        rows_fit = t.rows_fit;
        rows_stay = t.rows_stay;
      }
    where
      first_rigid : (x : Stood) (xs : List Stood) → AllByRecursion (Moves_as_one f Free) (x ∷ xs) → Moves_as_one f Free x
      first_rigid x xs h = h.0

  -- Every table of the new file finds what it found.
  pub pieces_stay : TableFacts → pieces (spell_avi after) ≡ pieces o
  pieces_stay t = pieces_move o (spell_avi after) f Free facts.order (tables_facts t)
