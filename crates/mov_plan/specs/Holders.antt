-- The atoms in which tables of chunk places stand, where these become wider (QuickTime File Format, chunk offset atoms).
use Rattle.std.specs.Prelude.{ℕ, ◌+◌, ◌-◌, ◌*◌, List, [], ◌∷◌, codes, take, nat_lt, sum_by, if◌then◌else◌}
use Rattle.std.specs.List.{prefix_len}
use Rattle.std.specs.List.Sorted.{IsNonDecreasingBy}
use Rattle.std.specs.Str.{bytes_eq}
use Rattle.container_model.specs.Chunk.{header_bytes}
use Rattle.qt_atoms.specs.Walk.{form_of, header_len}
use Rattle.qt_atoms.specs.declared.walker.AtomAt.{AtomAt}
use Rattle.unit_plan.specs.declared.cut.CutAt.{CutAt}
use Rattle.mov_plan.specs.declared.tables.TableAt.{TableAt}

-- ---- what tables grow by

-- each row of four bytes gets eight
abbrev pub grown_by : TableAt → ℕ
grown_by t = if t.wide then 0 else 4 * t.rows

-- the tables stand one behind the other
abbrev pub TablesAscend : List TableAt → Type 0
TablesAscend ts = IsNonDecreasingBy (λ t. t.at) ts

-- how many begin before a place
abbrev pub begun_by : ℕ → List TableAt → ℕ
begun_by p ts = prefix_len (λ t. nat_lt t.at p) ts

-- what those grow by that begin from a place on, before another
abbrev pub grown_within : ℕ → ℕ → List TableAt → ℕ
grown_within from to ts = sum_by grown_by (take (begun_by to ts) ts) - sum_by grown_by (take (begun_by from ts) ts)

-- ---- headers

-- `stco` becomes `co64`
abbrev pub kind_after : List ℕ → List ℕ
kind_after id = if bytes_eq id (codes "stco") then codes "co64" else id

-- the header of an atom that grows
abbrev pub head_of : ℕ → AtomAt → CutAt
head_of grown k =
    record { span = record { at = k.at; len = header_len k.form }; bytes = header_bytes (form_of k.form) (kind_after k.kind.0) (k.body.len + grown); keep = 0 }

-- that of one by the tables in it
abbrev pub head_in : List TableAt → AtomAt → CutAt
head_in ts k = head_of (grown_within k.at k.next ts) k

-- ---- spans by place

-- how many stand before the first one that begins at a place or behind it
abbrev pub cuts_before : ℕ → List CutAt → ℕ
cuts_before p ks = prefix_len (λ k. nat_lt k.span.at p) ks

-- a span more stands behind those that begin before it
abbrev pub put_cut : CutAt → List CutAt → List CutAt
put_cut u [] = u ∷ []
put_cut u (k ∷ ks) = if nat_lt k.span.at u.span.at then k ∷ put_cut u ks else u ∷ (k ∷ ks)

-- so of each of some
abbrev pub put_all : List CutAt → List CutAt → List CutAt
put_all [] ks = ks
put_all (u ∷ us) ks = put_cut u (put_all us ks)
