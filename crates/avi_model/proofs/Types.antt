-- What it says that a chunk is a list of a type, or padding.
use Rattle.std.proofs.Common.{◌≡◌, ℕ, Bool, true, false, List, take, refl}
use Rattle.std.specs.Prelude.{◌&&◌, codes}
use Rattle.std.specs.Str.{bytes_eq}
use Rattle.std.proofs.lemmas.Bool.{and_parts}
use Rattle.std.proofs.lemmas.Slice.Eq.{bytes_eq-Decides}
use Rattle.container_model.specs.Chunk.{Chunk}
use Rattle.carrier_model.specs.Info.{own_size, is_padding, is_type}

pub same_true : (a b : List ℕ) → bytes_eq a b ≡ true → a ≡ b
same_true a b e = (bytes_eq-Decides a b).0 e

-- what a test says
pub record TypeIs (w : List ℕ) (c : Chunk) : Type 0 where
  pub sized : own_size c.form ≡ true
  pub list : bytes_eq c.id (codes "LIST") ≡ true
  pub id_is : c.id ≡ codes "LIST"
  pub type_is : take 4 c.body ≡ w

pub type_is : (w : List ℕ) (c : Chunk) → is_type w c ≡ true → TypeIs w c
type_is w c h =
    let p = and_parts (own_size c.form) (bytes_eq c.id (codes "LIST") && bytes_eq (take 4 c.body) w) h in
    let q = and_parts (bytes_eq c.id (codes "LIST")) (bytes_eq (take 4 c.body) w) p.1 in
    record { sized = p.0; list = q.0; id_is = same_true c.id (codes "LIST") q.0; type_is = same_true (take 4 c.body) w q.1 }

pub padding_id : (c : Chunk) → is_padding c ≡ true → c.id ≡ codes "JUNK"
padding_id c h = same_true c.id (codes "JUNK") (and_parts (own_size c.form) (bytes_eq c.id (codes "JUNK")) h).1

pub and_none : (b : Bool) → (b && false) ≡ false
and_none true = refl
and_none false = refl
