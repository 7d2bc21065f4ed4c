-- Records in a file. A dossier file is a string of bytes. A record is a two-byte body length, a two-byte kind and the body;
-- numbers are little-endian, and every field of a body has two bytes.
--
--   kind                      fields of the body                                    bytes of the body
--   1  inclusion              R, S                                                  4
--   2  transitivity           R                                                     2
--   3  concept                tag, a, b                                             6
--   4  pair                   c, d                                                  4
--   5  axiom                  c                                                     2
--   6  seal                                                                         0
--   7  line                   rule, p, q, s, m, n, members                          every even length from 12 up
--   8  claim                  members                                               every even length from 0 up
--   9  close as empty         claim, line                                           4
--   10 close as inhabited     claim, point, size, count of marks, marks, edges      every even length from 8 up
--
-- A record with another kind, or with a body length that its kind can't have, is malformed, and reading goes on after it.
-- A record whose head or body is cut off by the end of the file is malformed too, whatever its kind and its length, and
-- extends to the end of the file.
use Rattle.std.specs.Prelude.{◌≡◌, ℕ, ◌+◌, ◌-◌, ◌*◌, ◌%◌, ◌<◌, ◌≤◌, min, cond, List, length, Some, None, Ok, Err, Option, Result, nat_le}
use Rattle.refusals.specs.declared.Refusal.{Refusal}
use Rattle.refusals.specs.Table.{returned}
use Rattle.records.specs.declared.record.Record.{Record}
use Rattle.records.specs.declared.record.Record.TheVariants.{Inclusion, Transitivity, Concept, Pair, Axiom, Seal, Line, Claim, CloseEmpty, CloseInhabited}
use Rattle.records.specs.declared.record.Frame.{Frame}
use Rattle.records.specs.declared.reader.Reader.{Reader}
use Rattle.file_bytes.specs.Bytes.{word, part}

-- the kind of the record at i; 0 if its head is cut off
abbrev pub kind_at : List ℕ → ℕ → ℕ
kind_at f i = cond (nat_le (i + 4) (length f)) (word f (i + 2)) 0

-- its body length
abbrev pub size_at : List ℕ → ℕ → ℕ
size_at f i = word f i

-- its head and its body lie in the file
abbrev pub Whole : List ℕ → ℕ → Type 0
Whole f i = i + 4 + size_at f i ≤ length f

-- where it ends: after its body, or with the file if it is cut off
abbrev pub end_of : List ℕ → ℕ → ℕ
end_of f i = min (i + 4 + size_at f i) (length f)

-- How many bytes of a record that closes as inhabited are marks. A mark has 4 bytes and an edge 6;
-- the marks are as many as the record counts, or what is left after the first 8 bytes of the body,
-- and all the rest of the body is edges.
abbrev pub marks_at : List ℕ → ℕ → ℕ
marks_at f i = min (4 * word f (i + 10)) (size_at f i - 8)

-- The record at i is whole, it has this kind and a body length that the kind can have, and its
-- parts are these bytes of the file.
abbrev pub LiesAt : List ℕ → ℕ → Record → Type 0
LiesAt f i (Inclusion body) =
    Whole f i × (kind_at f i ≡ 1) × (size_at f i ≡ 4) × (body.now ≡ part f (i + 4) 4)
LiesAt f i (Transitivity body) =
    Whole f i × (kind_at f i ≡ 2) × (size_at f i ≡ 2) × (body.now ≡ part f (i + 4) 2)
LiesAt f i (Concept body) =
    Whole f i × (kind_at f i ≡ 3) × (size_at f i ≡ 6) × (body.now ≡ part f (i + 4) 6)
LiesAt f i (Pair body) =
    Whole f i × (kind_at f i ≡ 4) × (size_at f i ≡ 4) × (body.now ≡ part f (i + 4) 4)
LiesAt f i (Axiom body) =
    Whole f i × (kind_at f i ≡ 5) × (size_at f i ≡ 2) × (body.now ≡ part f (i + 4) 2)
LiesAt f i Seal = Whole f i × (kind_at f i ≡ 6) × (size_at f i ≡ 0)
LiesAt f i (Line body members) =
    Whole f i × (kind_at f i ≡ 7) × (12 ≤ size_at f i) × (size_at f i % 2 ≡ 0)
    × (body.now ≡ part f (i + 4) 12) × (members.now ≡ part f (i + 16) (size_at f i - 12))
LiesAt f i (Claim members) =
    Whole f i × (kind_at f i ≡ 8) × (size_at f i % 2 ≡ 0) × (members.now ≡ part f (i + 4) (size_at f i))
LiesAt f i (CloseEmpty body) =
    Whole f i × (kind_at f i ≡ 9) × (size_at f i ≡ 4) × (body.now ≡ part f (i + 4) 4)
LiesAt f i (CloseInhabited body marks edges) =
    Whole f i × (kind_at f i ≡ 10) × (8 ≤ size_at f i) × (size_at f i % 2 ≡ 0)
    × (body.now ≡ part f (i + 4) 8) × (marks.now ≡ part f (i + 12) (marks_at f i))
    × (edges.now ≡ part f (i + 12 + marks_at f i) (size_at f i - 8 - marks_at f i))

-- The record at i: well-formed, or no record can stand there, and it is malformed.
abbrev pub Content : List ℕ → ℕ → Result Record Refusal → Type 0
Content f i (Ok x) = LiesAt f i x
Content f i (Err e) = (returned e ≡ (1, i)) × ((x : Record) → LiesAt f i x → ⊥)

-- Reader r answers and becomes s: it gives the record where it stands and goes on after it, until
-- the file ends.
abbrev pub Next : Reader → Reader → Option Frame → Type 0
Next r s None = (length r.file.now ≤ r.at) × (s ≡ r)
Next r s (Some frame) =
    (r.at < length r.file.now) × (frame.offset ≡ r.at) × (frame.kind ≡ kind_at r.file.now r.at)
    × Content r.file.now r.at frame.content × (s ≡ record r { at = end_of r.file.now r.at })
