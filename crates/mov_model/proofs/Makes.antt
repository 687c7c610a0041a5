-- The pieces of an edited movie: what is copied has the spans that make another atom of it, where each atom that was read has them and an atom that is no track has none.
use Rattle.std.proofs.Common.{Bool, List, None, Some, [], cond, false, map, refl, true, ℕ, ◌++◌, ◌∷◌, ◌≡◌}
use Rattle.std.specs.Prelude.{IfSome, codes, not, ◌&&◌}
use Rattle.std.specs.List.{AllByRecursion}
use Rattle.carrier_model.specs.Lists.{sets_some}
use Rattle.carrier_model.specs.Steps.{carried}
use Rattle.container_model.proofs.Cuts.{AllMake, CanMake}
use Rattle.container_model.proofs.Units.{AllCells}
use Rattle.container_model.specs.Atoms.{atom, atoms_in, is}
use Rattle.container_model.specs.Chunk.{Chunk, spell, spell_all}
use Rattle.container_model.specs.Items.{edit_carrier, put_all}
use Rattle.container_model.specs.Splice.{Cut}
use Rattle.container_model.specs.Units.{Cell, Piece, Slot, begun, closed, copied, edited, gap, is_empty, kept, kept_next, lacks_pad, replaced, shut, units}
use Rattle.mov_model.specs.Atoms.{cell_of}
use Rattle.mov_model.specs.Carried.{Changes, fresh, steps}
use Rattle.mov_model.specs.Keys.{edit_meta, is_meta, new_table, with_keys}
use Rattle.mov_model.specs.Movie.{Movie}
use Rattle.mov_model.specs.New.{gaps_of, grown, is_open, pieces_of, whole_pieces}
use Rattle.mov_model.proofs.Carry.{first_all}
use Rattle.mov_model.proofs.Cells.{Brings, all_carried, all_chunks, atoms_now, is_user, meta_sort, user_sort}
use Rattle.qt_keys.specs.Table.{table_bytes}
use Rattle.qt_text.specs.User.{udta, user_items}

-- what holds of each copied atom
abbrev pub Copied : (Chunk → Type 0) → List Piece → Type 0
Copied P [] = Unit {0}
Copied P (copied c ∷ ps) = P c × Copied P ps
Copied P (replaced lead slot now last ∷ ps) = Copied P ps

module _ (P : Chunk → Type 0) (plain : (c : Chunk) → is c (codes "trak") ≡ false → P c) where
  closed_copied : (last : Bool) (s : Slot) (ps : List Piece) → Copied P ps → Copied P (closed last s ++ ps)
  closed_copied last shut ps h = h
  closed_copied last (begun lead slot now) ps h = h

  next_copied : (r : Bool) (c : Chunk) (more : Slot → List Piece) → P c → ((s : Slot) → Copied P (more s)) → Copied P (kept_next r c more)
  next_copied true c more k h = h (begun (c ∷ []) [] [])
  next_copied false c more k h = (k, h shut)

  units_copied : (s : Slot) (xs : List Cell) → AllCells P xs → Copied P (units s xs)
  unfolding units
  units_copied shut [] h = tt
  units_copied (begun lead slot now) [] h = tt
  units_copied s (kept c ∷ xs) h = closed_copied false s _ (next_copied (lacks_pad c && not (is_empty xs)) c (λ u. units u xs) h.0 (λ u. units_copied u xs h.1))
  units_copied shut (gap c ∷ xs) h = next_copied (lacks_pad c && not (is_empty xs)) c (λ u. units u xs) h.0 (λ u. units_copied u xs h.1)
  units_copied (begun lead slot now) (gap c ∷ xs) h = units_copied (begun lead (slot ++ spell c) now) xs h.1
  units_copied shut (edited old new ∷ xs) h = units_copied (begun [] (spell_all old) new) xs h.1
  units_copied (begun lead slot now) (edited old new ∷ xs) h = units_copied (begun lead (slot ++ spell_all old) (now ++ new)) xs h.1

  fresh_copied : (items : List Chunk) → IfSome (fresh udta items) P
  fresh_copied [] = tt
  fresh_copied (c ∷ cs) = plain (udta.fresh (c ∷ cs)) refl

  meta_copied : (u : Bool) (b : List ℕ) → IfSome (cond u (Some (atom (codes "meta") b)) None) P
  meta_copied true b = plain (atom (codes "meta") b) refl
  meta_copied false b = tt

  brought : (e : Changes) (cs : List Chunk) → AllByRecursion P cs → Brings P e cs
  brought e cs h = record {
    users = first_all is_user P (λ c. P (edit_carrier udta user_items e.users c)) (λ c u k. plain (edit_carrier udta user_items e.users c) (user_sort.no_track c u)) cs h;
    new_user = λ none. fresh_copied (put_all user_items e.users []);
    keys = first_all is_meta P (λ c. P (edit_meta e.keys c)) (λ c u k. plain (edit_meta e.keys c) (meta_sort.no_track c u)) cs h;
    new_keys = λ none. meta_copied (sets_some e.keys) (table_bytes (with_keys e.keys new_table));
  }

  pub pieces_copied : (m : Movie) (e : Changes) → AllByRecursion P (atoms_in m.movie).chunks → Copied P (pieces_of m e)
  pieces_copied m e kids =
      let cs = (atoms_in m.movie).chunks in
      units_copied shut (carried (steps e) (map cell_of cs)) (all_carried P e cs kids (λ all. all_chunks P e (atoms_now cs) all (brought e (atoms_now cs) all)))

  grown_copied : (more : List ℕ) (ps : List Piece) → Copied P ps → Copied P (grown more ps)
  grown_copied more [] h = tt
  grown_copied more (copied c ∷ ps) h = (h.0, grown_copied more ps h.1)
  grown_copied more (replaced lead slot now true ∷ ps) h = h
  grown_copied more (replaced lead slot now false ∷ ps) h = grown_copied more ps h

  whole_copied : (m : Movie) (e : Changes) → AllByRecursion P (atoms_in m.movie).chunks → Copied P (whole_pieces m e)
  whole_copied m e kids = go (is_open m e)
    where
      go : (u : Bool) → Copied P (cond u (grown (spell_all (gaps_of m.behind)) (pieces_of m e)) (pieces_of m e))
      go true = grown_copied (spell_all (gaps_of m.behind)) (pieces_of m e) (pieces_copied m e kids)
      go false = pieces_copied m e kids

module _ (t : ℕ → Chunk → List Cut) (g : Chunk → Chunk) where
  all_make : (ps : List Piece) → Copied (λ c. CanMake t g c) ps → AllMake t g ps
  all_make [] h = tt
  all_make (copied c ∷ ps) h = (h.0, all_make ps h.1)
  all_make (replaced lead slot now last ∷ ps) h = all_make ps h

  pub pieces_make : ((c : Chunk) → is c (codes "trak") ≡ false → CanMake t g c) → (m : Movie) (e : Changes) → AllByRecursion (λ c. CanMake t g c) (atoms_in m.movie).chunks → AllMake t g (whole_pieces m e)
  pieces_make plain m e kids = all_make (whole_pieces m e) (whole_copied (λ c. CanMake t g c) plain m e kids)
