-- The tables of the new file are the old ones, moved, with their numbers moved.
use Rattle.std.proofs.Common.{◌≡◌, ℕ, ◌+◌, ◌<◌, ◌≤◌, Bool, true, false, List, [], ◌∷◌, ◌++◌, length, map, refl, sym, ap, ◌∙◌, arith}
use Rattle.std.specs.Int.{w32, from_le_bytes}
use Rattle.std.specs.List.{flat_map, AllByRecursion}
use Rattle.std.proofs.lemmas.List.{length-append}
use Rattle.container_model.specs.Chunk.{header_bytes}
use Rattle.container_model.specs.Stood.{Stood}
use Rattle.container_model.specs.Written.{slice, Write, written}
use Rattle.container_model.proofs.Written.{Misses, In, Alone, write_end, slice_clear, slice_own, written_own, length-slice, length-written, misses_in}
use Rattle.container_model.proofs.Stay.{Orders, Stays, stays_part}
use Rattle.container_model.proofs.Copied.{Moves_as_one, map_append}
use Rattle.container_model.proofs.Stood.{carried_to}
use Rattle.container_model.specs.Tables.{Table, table_of, named}
use Rattle.opendml_index.specs.Index.{move, is_super, entries, used_place, super_row, index_by, index_body, super_places}
use Rattle.avi_model.specs.Index.{named_in, named_by, write_index}
use Rattle.avi_model.proofs.Numbers.{Whole, super_entries, index_length, index_is}
use Rattle.avi_model.proofs.Walk.{IsRiffHead}
use Rattle.avi_model.proofs.Pieces.{SuperFits, used_moves}

-- a table's write is there, and no other touches it
pub record Owns (ws : List Write) (w : Write) : Type 0 where
  pub is_there : In w ws
  pub alone : AllByRecursion (Alone w) ws

module _ (o n : List ℕ) (f : ℕ → ℕ) (Ok : ℕ → Type 0) (order : Orders f Ok) (ws : List Write) where
  abbrev moved : Table → Table
  moved t = record { at = f t.at; body = index_body (move f) t.body }

  -- ---- an index of a stream

  pub record StreamFine (x : Stood) : Type 0 where
    pub head : IsRiffHead x
    pub whole : Whole x.chunk.body
    pub owns : Owns ws (write_index (move f) (table_of x))

  stream_moves : (x : Stood) → StreamFine x → Moves_as_one f Ok x → table_of (carried_to f ws x) ≡ moved (table_of x)
  stream_moves x h r =
      let c = x.chunk in
      let long = h.whole.header_there in
      let hl = length-append (header_bytes c.form c.id (length c.body)) (c.body ++ c.pad) in
      let place : f (x.at + 8) ≡ f x.at + 8 = (r 8 (omega (arith, h.head, hl, length-append c.body c.pad))).1 in
      let at8 : x.at + Rattle.container_model.proofs.Written.head_length c ≡ x.at + 8 = omega (arith, h.head) in
      let own : written ws (x.at + 8) c.body ≡ index_body (move f) c.body = written_own (write_index (move f) (table_of x)) ws c.body h.owns.is_there h.owns.alone (sym (index_length (move f) c.body h.whole)) in
      ap (λ (b : List ℕ). record { at = f x.at + 8; body = b }) (ap (λ (k : ℕ). written ws k c.body) at8 ∙ own) ∙ ap (λ (k : ℕ). record { at = k; body = index_body (move f) c.body }) (sym place)

  pub streams_move : (xs : List Stood) → AllByRecursion StreamFine xs → AllByRecursion (Moves_as_one f Ok) xs → map table_of (map (carried_to f ws) xs) ≡ map moved (map table_of xs)
  streams_move [] h r = refl
  streams_move (x ∷ xs) h r = rw (stream_moves x h.0 r.0, streams_move xs h.1 r.1) refl

  -- ---- a chunk that a super entry names

  -- it stands in a body that is copied with what is written there; its header is left alone
  pub record NamedFine (p : ℕ) : Type 0 where
    pub whole : Whole (named o p).body
    pub stays : Stays (written ws 0 o) n f Ok p (8 + from_le_bytes w32 (slice o (p + 4) 4))
    pub clear : AllByRecursion (Misses p 8) ws
    pub owns : Owns ws (write_index (move f) (named o p))

  pub named_moves : (p : ℕ) → NamedFine p → named n (f p) ≡ moved (named o p)
  named_moves p h =
      let len = from_le_bytes w32 (slice o (p + 4) 4) in
      let size : length o ≡ length (written ws 0 o) = sym (length-written ws 0 o) in
      let fits : p + (8 + len) ≤ length o = omega (arith, h.stays.lies, size) in
      let body_len : length (slice o (p + 8) len) ≡ len = length-slice o (p + 8) len (omega (arith, fits)) in
      let some : 0 < len = omega (arith, h.whole.header_there, body_len) in
      let four = stays_part (written ws 0 o) n f Ok p (8 + len) 4 4 (omega arith) (omega arith) h.stays in
      let eight = stays_part (written ws 0 o) n f Ok p (8 + len) 8 len (omega arith) (omega (arith, some)) h.stays in
      let at4 : f (p + 4) ≡ f p + 4 = (h.stays.rigid 4 (omega arith)).1 in
      let at8 : f (p + 8) ≡ f p + 8 = (h.stays.rigid 8 (omega (arith, some))).1 in
      let number : slice n (f p + 4) 4 ≡ slice o (p + 4) 4 = ap (λ (q : ℕ). slice n q 4) (sym at4) ∙ four.same ∙ slice_clear ws o (p + 4) 4 (misses_in p 8 (p + 4) 4 ws (omega arith) (omega arith) h.clear) in
      let w = write_index (move f) (named o p) in
      let same_len : length w.bytes ≡ len = index_length (move f) (named o p).body h.whole ∙ body_len in
      let own : slice (written ws 0 o) (p + 8) len ≡ index_body (move f) (named o p).body = ap (slice (written ws 0 o) (p + 8)) (sym same_len) ∙ slice_own w ws o h.owns.is_there h.owns.alone (omega (arith, same_len, fits)) in
      let sized : Table = record { at = f p + 8; body = slice n (f p + 8) len } in
      let placed : Table = record { at = f (p + 8); body = slice n (f (p + 8)) len } in
      let one : named n (f p) ≡ sized = ap (λ (x : List ℕ). record { at = f p + 8; body = slice n (f p + 8) (from_le_bytes w32 x) }) number in
      let two : sized ≡ placed = ap (λ (q : ℕ). record { at = q; body = slice n q len }) (sym at8) in
      let three : placed ≡ moved (named o p) = ap (λ (b : List ℕ). record { at = f (p + 8); body = b }) (eight.same ∙ own) in
      one ∙ (two ∙ three)

  all_named : (ps : List ℕ) → AllByRecursion NamedFine ps → map (named n) (map f ps) ≡ map moved (map (named o) ps)
  all_named [] h = refl
  all_named (p ∷ ps) h = rw (named_moves p h.0, all_named ps h.1) refl

  pub places_move : (rs : List (List ℕ)) → AllByRecursion (SuperFits o n f Ok order) rs → flat_map used_place (map (super_row (move f)) rs) ≡ map f (flat_map used_place rs)
  places_move [] h = refl
  places_move (r ∷ rs) h = ap (λ (k : List ℕ). k ++ flat_map used_place (map (super_row (move f)) rs)) (used_moves o n f Ok order r h.0) ∙ ap (λ (k : List ℕ). map f (used_place r) ++ k) (places_move rs h.1) ∙ sym (map_append f (used_place r) (flat_map used_place rs))

  -- what a stream's index names
  abbrev pub NamesFine_by : Table → Bool → Type 0
  NamesFine_by t true = AllByRecursion (SuperFits o n f Ok order) (entries t.body) × AllByRecursion NamedFine (super_places t.body)
  NamesFine_by t false = Unit {0}

  abbrev pub NamesFine : Table → Type 0
  NamesFine t = Whole t.body × NamesFine_by t (is_super t.body)

  names_move : (t : Table) → NamesFine t → named_by n (moved t) ≡ map moved (named_by o t)
  names_move t h = ap (named_in n (index_body (move f) t.body)) (index_is (move f) t.body h.0) ∙ go (is_super t.body) h.1
    where
      go : (b : Bool) → NamesFine_by t b → named_in n (index_by (move f) t.body b) b ≡ map moved (named_in o t.body b)
      go true g = ap (λ (rs : List (List ℕ)). map (named n) (flat_map used_place rs)) (super_entries (move f) t.body h.0) ∙ ap (map (named n)) (places_move (entries t.body) g.0) ∙ all_named (super_places t.body) g.1
      go false g = refl

  all_names : (ts : List Table) → AllByRecursion NamesFine ts → flat_map (named_by n) (map moved ts) ≡ map moved (flat_map (named_by o) ts)
  all_names [] h = refl
  all_names (t ∷ ts) h = rw (names_move t h.0, all_names ts h.1) (sym (map_append moved (named_by o t) (flat_map (named_by o) ts)))

  -- The index chunks of the new file, where its streams' indexes are known.
  pub tables_move : (ts us : List Table) → us ≡ map moved ts → AllByRecursion NamesFine ts → us ++ flat_map (named_by n) us ≡ map moved (ts ++ flat_map (named_by o) ts)
  tables_move ts us e h = ap (λ (k : List Table). k ++ flat_map (named_by n) k) e ∙ ap (λ (k : List Table). map moved ts ++ k) (all_names ts h) ∙ sym (map_append moved ts (flat_map (named_by o) ts))
