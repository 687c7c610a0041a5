-- A relocated track: its tables with their places changed, and all else as it was.
use Rattle.std.proofs.Common.{List, None, Option, Some, [], ap, false, length, map, refl, suc, sym, take, zero, ℕ, ◌++◌, ◌∙◌, ◌∷◌, ◌≡◌}
use Rattle.std.specs.Prelude.{codes}
use Rattle.std.specs.List.{flat_map}
use Rattle.container_model.proofs.Atoms.{atoms_give_back}
use Rattle.container_model.proofs.Codec.{IsBytes}
use Rattle.container_model.proofs.Deep.{Alike, mend_alike, mend_leaves, mend_same, mend_tokens, mend_whole}
use Rattle.container_model.proofs.Moved.{atom_moves}
use Rattle.container_model.proofs.Walk.{mend_nested}
use Rattle.container_model.specs.Chunk.{Chunk}
use Rattle.container_model.specs.Deep.{Leaf, Whole, leaves, mend, mend_at, stands, tokens}
use Rattle.container_model.specs.Items.{listed}
use Rattle.mov_model.specs.Atoms.{Place, dinf, file, format, mdia, minf, moov, opens, stbl, trak, user_data}
use Rattle.container_model.specs.Atoms.{is}
use Rattle.mov_model.specs.Kept.{look}
use Rattle.mov_model.specs.Reading.{names, names_of, once}
use Rattle.mov_model.specs.Tables.{in_dinf, in_stbl, moved_leaf, references, relocated, tables}
use Rattle.sample_tables.proofs.Moved.{body_len, body_none, look_same}
use Rattle.sample_tables.specs.Tables.{moved_table}

module _ (f : ℕ → ℕ) where
  pub keeps : (p : Place) (c : Chunk) → length (moved_leaf f p c) ≡ length c.body
  keeps file c = refl
  keeps user_data c = refl
  keeps moov c = refl
  keeps trak c = refl
  keeps mdia c = refl
  keeps minf c = refl
  keeps dinf c = refl
  keeps stbl c = body_len f c

  unseen : (p : Place) (c : Chunk) → look p (record c { body = moved_leaf f p c }) ≡ look p c
  unseen file c = refl
  unseen user_data c = refl
  unseen moov c = refl
  unseen trak c = refl
  unseen mdia c = refl
  unseen minf c = refl
  unseen dinf c = refl
  unseen stbl c = look_same f c

  -- ---- the atoms that are opened

  at_id : (g : Place → Chunk → Chunk) (p : Place) (c : Chunk) (o : Option Place) → (mend_at format (moved_leaf f) g p c o).id ≡ c.id
  at_id g p c None = refl
  at_id g p c (Some q) = refl

  mend_id : (d : ℕ) (p : Place) (c : Chunk) → (mend format (moved_leaf f) d p c).id ≡ c.id
  unfolding mend
  mend_id zero p c = refl
  mend_id (suc d) p c = at_id (mend format (moved_leaf f) d) p c (opens p c.id (take 4 c.body))

  opens_by_id : (p : Place) (a b x y : List ℕ) → a ≡ b → opens p a x ≡ opens p b y
  opens_by_id file a b x y e = refl
  opens_by_id user_data a b x y e = refl
  opens_by_id moov a b x y e = rw e refl
  opens_by_id trak a b x y e = rw e refl
  opens_by_id mdia a b x y e = rw e refl
  opens_by_id minf a b x y e = rw e refl
  opens_by_id stbl a b x y e = refl
  opens_by_id dinf a b x y e = refl

  pub opens_again : (d : ℕ) (p : Place) (c : Chunk) → Whole format d p c → IsBytes c.body
      → opens p (mend format (moved_leaf f) d p c).id (take 4 (mend format (moved_leaf f) d p c).body) ≡ opens p c.id (take 4 c.body)
  opens_again d p c w b = opens_by_id p _ c.id _ _ (mend_id d p c)

  pub relocated_id : (c : Chunk) → (relocated f c).id ≡ c.id
  relocated_id c = mend_id 5 moov c

  at_pad : (g : Place → Chunk → Chunk) (p : Place) (c : Chunk) (o : Option Place) → mend_at format (moved_leaf f) g p (record c { pad = [] }) o ≡ record (mend_at format (moved_leaf f) g p c o) { pad = [] }
  at_pad g file c None = refl
  at_pad g user_data c None = refl
  at_pad g moov c None = refl
  at_pad g trak c None = refl
  at_pad g mdia c None = refl
  at_pad g minf c None = refl
  at_pad g dinf c None = refl
  at_pad g stbl c None = refl
  at_pad g p c (Some q) = refl

  -- the pad is not looked at
  pub relocated_pad : (c : Chunk) → relocated f (record c { pad = [] }) ≡ record (relocated f c) { pad = [] }
  unfolding mend
  relocated_pad c = at_pad (mend format (moved_leaf f) 4) moov c (opens moov c.id (take 4 c.body))

  -- what is no track stays
  pub relocated_other : (c : Chunk) → is c (codes "trak") ≡ false → relocated f c ≡ c
  unfolding mend
  relocated_other c e = rw e refl

  pub relocated_alike : (c : Chunk) → Whole format 5 moov c → IsBytes c.body → Alike c (relocated f c)
  relocated_alike c w b = mend_alike format atoms_give_back atom_moves (moved_leaf f) keeps 5 moov c w b

  pub relocated_tokens : (c : Chunk) → Whole format 5 moov c → IsBytes c.body → tokens format look 5 moov (relocated f c) ≡ tokens format look 5 moov c
  relocated_tokens c w b = mend_tokens format atoms_give_back atom_moves (moved_leaf f) keeps look unseen opens_again 5 moov c w b

  abbrev leaf_tables : List (Leaf Place) → List Chunk
  leaf_tables ls = flat_map (λ (l : Leaf Place). in_stbl l.place l.chunk) ls

  map-tables : (a b : List Chunk) → map (moved_table f) (a ++ b) ≡ map (moved_table f) a ++ map (moved_table f) b
  map-tables [] b = refl
  map-tables (c ∷ a) b = ap (λ (x : List Chunk). moved_table f c ∷ x) (map-tables a b)

  one_table : (p : Place) (c : Chunk) → in_stbl p (record c { body = moved_leaf f p c }) ≡ map (moved_table f) (in_stbl p c)
  one_table file c = refl
  one_table user_data c = refl
  one_table moov c = refl
  one_table trak c = refl
  one_table mdia c = refl
  one_table minf c = refl
  one_table dinf c = refl
  one_table stbl c = refl

  all_tables : (ls : List (Leaf Place)) → leaf_tables (map (λ (l : Leaf Place). stands l.place (record l.chunk { body = moved_leaf f l.place l.chunk })) ls) ≡ map (moved_table f) (leaf_tables ls)
  all_tables [] = refl
  all_tables (l ∷ ls) = rw (one_table l.place l.chunk, all_tables ls) (sym (map-tables (in_stbl l.place l.chunk) (leaf_tables ls)))

  -- The tables of a relocated track are its tables with their places changed.
  pub relocated_tables : (c : Chunk) → Whole format 5 moov c → IsBytes c.body → tables (relocated f c) ≡ map (moved_table f) (tables c)
  relocated_tables c w b = ap leaf_tables (mend_leaves format atoms_give_back atom_moves (moved_leaf f) keeps opens_again 5 moov c w b) ∙ all_tables (leaves format 5 moov c)

  -- ---- what the tables say

  -- ---- what is asked of tables

  pub relocated_whole : (c : Chunk) → Whole format 5 moov c → IsBytes c.body → Whole format 5 moov (relocated f c)
  relocated_whole c w b = mend_whole format atoms_give_back atom_moves (moved_leaf f) keeps opens_again 5 moov c w b

  abbrev leaf_references : List (Leaf Place) → List Chunk
  leaf_references ls = flat_map (λ (l : Leaf Place). in_dinf l.place l.chunk) ls

  one_reference : (p : Place) (c : Chunk) → in_dinf p (record c { body = moved_leaf f p c }) ≡ in_dinf p c
  one_reference file c = refl
  one_reference user_data c = refl
  one_reference moov c = refl
  one_reference trak c = refl
  one_reference mdia c = refl
  one_reference minf c = refl
  one_reference dinf c = refl
  one_reference stbl c = refl

  all_references : (ls : List (Leaf Place)) → leaf_references (map (λ (l : Leaf Place). stands l.place (record l.chunk { body = moved_leaf f l.place l.chunk })) ls) ≡ leaf_references ls
  all_references [] = refl
  all_references (l ∷ ls) = rw (one_reference l.place l.chunk, all_references ls) refl

  pub relocated_references : (c : Chunk) → Whole format 5 moov c → IsBytes c.body → references (relocated f c) ≡ references c
  relocated_references c w b = ap leaf_references (mend_leaves format atoms_give_back atom_moves (moved_leaf f) keeps opens_again 5 moov c w b) ∙ all_references (leaves format 5 moov c)

  -- the names of a relocated track are its names
  pub relocated_names : (c : Chunk) → Whole format 5 moov c → IsBytes c.body → names (relocated f c) ≡ names c
  relocated_names c w b =
      mend_nested format atoms_give_back atom_moves (moved_leaf f) keeps names_of (λ p a d e. ap (λ (x : List ℕ). listed (once p x)) e) opens_again 5 moov c w b

  -- ---- where no place changes

  module _ (copied : (p : ℕ) → f p ≡ p) where
    leaf_none : (p : Place) (c : Chunk) → IsBytes c.body → moved_leaf f p c ≡ c.body
    leaf_none file c bytes = refl
    leaf_none user_data c bytes = refl
    leaf_none moov c bytes = refl
    leaf_none trak c bytes = refl
    leaf_none mdia c bytes = refl
    leaf_none minf c bytes = refl
    leaf_none dinf c bytes = refl
    leaf_none stbl c bytes = body_none f copied c bytes

    pub relocated_none : (c : Chunk) → Whole format 5 moov c → IsBytes c.body → relocated f c ≡ c
    relocated_none c w b = mend_same format atoms_give_back atom_moves (moved_leaf f) keeps leaf_none 5 moov c w b
