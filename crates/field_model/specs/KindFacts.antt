-- What the rules and the report need to know of a kind of files (this project's own).
use Rattle.std.specs.Prelude.{ℕ, List, [], ◌∷◌, Bool, true, false, ◌&&◌, nat_lt, codes}
use Rattle.part_tree.specs.declared.field.BextField.TheVariants.{Description, Originator, OriginationDate}
use Rattle.part_tree.specs.declared.field.FieldName.{FieldName}
use Rattle.part_tree.specs.declared.field.FieldName.TheVariants.{Bext, Info, Whole, User, Key, Stream}
use Rattle.part_tree.specs.declared.names.Kind.{Kind}
use Rattle.part_tree.specs.declared.names.Kind.TheVariants.{Wave, Rf64, Bw64, Avi, Mov}
use Rattle.part_tree.specs.Letters.{four}

-- a kind of files
pub record KindFacts : Type 0 where
  -- its printed name
  pub word : List ℕ
  -- whether its files have `bext` and the whole chunks
  pub has_bext : Bool
  -- whether they have a LIST of type INFO
  pub has_info : Bool
  -- whether they have QuickTime's user data and keys
  pub has_user : Bool
  -- whether they have streams with names
  pub has_streams : Bool
  -- the fields that must tell what a file holds, who made it, and when
  pub description : List FieldName
  pub originator : List FieldName
  pub date : List FieldName

-- a sound file of type WAVE (EBU Tech 3285; EBU Tech 3306; ITU-R BS.2088)
abbrev pub wave_facts : List ℕ → KindFacts
wave_facts word = record {
  word = word;
  has_bext = true;
  has_info = true;
  has_user = false;
  has_streams = false;
  description = Bext Description ∷ [];
  originator = Bext Originator ∷ [];
  date = Bext OriginationDate ∷ [];
}

-- an AVI file (RIFF)
abbrev pub avi_facts : KindFacts
avi_facts = record {
  word = codes "avi";
  has_bext = false;
  has_info = true;
  has_user = false;
  has_streams = true;
  description = Info (four (codes "INAM")) ∷ [];
  originator = Info (four (codes "IARL")) ∷ [];
  date = Info (four (codes "ICRD")) ∷ [];
}

-- a movie (QuickTime File Format); no field of it must tell who made it
abbrev pub mov_facts : KindFacts
mov_facts = record {
  word = codes "mov";
  has_bext = false;
  has_info = false;
  has_user = true;
  has_streams = false;
  description = User (four (169 ∷ codes "nam")) ∷ [];
  originator = [];
  date = User (four (169 ∷ codes "day")) ∷ [];
}

-- what is so of each kind
abbrev pub facts : Kind → KindFacts
facts Wave = wave_facts (codes "wave")
facts Rf64 = wave_facts (codes "rf64")
facts Bw64 = wave_facts (codes "bw64")
facts Avi = avi_facts
facts Mov = mov_facts

-- whether a file of a kind, with so many streams, can have a field
abbrev pub has_field : Kind → ℕ → FieldName → Bool
has_field kind streams (Bext field) = (facts kind).has_bext
has_field kind streams (Info id) = (facts kind).has_info
has_field kind streams (Whole id) = (facts kind).has_bext
has_field kind streams (User id) = (facts kind).has_user
has_field kind streams (Key name) = (facts kind).has_user
has_field kind streams (Stream n) = (facts kind).has_streams && nat_lt n streams

-- whether a file is of type WAVE
abbrev pub is_wave : Kind → Bool
is_wave kind = (facts kind).has_bext

-- whether a file is a QuickTime movie
abbrev pub is_movie : Kind → Bool
is_movie kind = (facts kind).has_user
