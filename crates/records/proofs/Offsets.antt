-- The offsets of a file's records.
use Rattle.std.proofs.Common.{◌≡◌, ℕ, zero, suc, ◌+◌, ◌-◌, ◌<◌, ◌≤◌, List, [], ◌∷◌, ◌++◌, length, drop, sym, refl, ap, ◌∙◌, ⊎_elim, arith}
use Rattle.std.proofs.lemmas.List.{drop_all, drop-drop, take-append-drop}
use Rattle.std.proofs.lemmas.Bool.{cases_lt}
use Rattle.records.specs.Records.{end_of}
use Rattle.records.specs.Files.{Lies, ended, behind, bytes_of, together, FilesAreTheirRecords}

-- a record ends after its beginning
pub end_above : (f : List ℕ) (i : ℕ) → i < length f → i < end_of f i
end_above f i h = omega arith

-- a record before the others
pub one_more : (f : List ℕ) (i : ℕ) → i < length f → (is : List ℕ) × Lies f (end_of f i) is → (is : List ℕ) × Lies f i is
one_more f i l (is, rest) = (i ∷ is, behind l rest)

-- from every offset on there are records, and only these
pub lies_from : (n : ℕ) (f : List ℕ) (i : ℕ) → length f - i ≤ n → (is : List ℕ) × Lies f i is
lies_from zero f i h = ([], ended (omega arith))
lies_from (suc n) f i h = ⊎_elim
    (λ (l : i < length f). one_more f i l (lies_from n f (end_of f i) (omega (arith, end_above f i l))))
    (λ (l : length f ≤ i). ([], ended l))
    (cases_lt i (length f))

pub lies_all : (f : List ℕ) (i : ℕ) → (is : List ℕ) × Lies f i is
lies_all f i = lies_from (length f - i) f i (omega arith)

pub lies_only : (f : List ℕ) (i : ℕ) (is js : List ℕ) → Lies f i is → Lies f i js → js ≡ is
lies_only f i [] [] p q = refl
lies_only f i [] (j ∷ js) (ended h) (behind l q) = let z : ⊥ = omega arith in absurd z
lies_only f i (k ∷ is) [] (behind l p) (ended h) = let z : ⊥ = omega arith in absurd z
lies_only f i (k ∷ is) (j ∷ js) (behind l p) (behind m q) = ap (λ xs. i ∷ xs) (lies_only f (end_of f i) is js p q)

-- at the end of the file there is no record
pub lies_end : (f : List ℕ) (i : ℕ) (is : List ℕ) → length f ≤ i → Lies f i is → is ≡ []
lies_end f i is h p = lies_only f i [] is (ended h) p

-- before the end there is one, and the others follow after it
pub lies_more : (f : List ℕ) (i : ℕ) (is : List ℕ) → i < length f → Lies f i is → (js : List ℕ) × Lies f (end_of f i) js × (is ≡ i ∷ js)
lies_more f i [] h (ended l) = let z : ⊥ = omega arith in absurd z
lies_more f i (k ∷ js) h (behind l p) = (js, p, refl)

-- together they are what is left of the file
pub together_rest : (f : List ℕ) (i : ℕ) (is : List ℕ) → Lies f i is → together f is ≡ drop i f
together_rest f i [] (ended h) = sym (drop_all i f h)
together_rest f i (k ∷ is) (behind l p) =
    let e : i + (end_of f i - i) ≡ end_of f i = omega (arith, end_above f i l) in
    let rest : drop (end_of f i - i) (drop i f) ≡ together f is = drop-drop _ i f ∙ ap (λ k. drop k f) e ∙ sym (together_rest f (end_of f i) is p) in
    ap (λ xs. bytes_of f i ++ xs) (sym rest) ∙ take-append-drop (end_of f i - i) (drop i f)

pub files_are_their_records : FilesAreTheirRecords
files_are_their_records f =
    let (is, p) = lies_all f 0 in
    (is, p, λ js q. lies_only f 0 is js p q, together_rest f 0 is p)

-- n records lie before offset i, however many follow
abbrev pub RecordsBefore : List ℕ → ℕ → ℕ → Type 0
RecordsBefore f n i = (is : List ℕ) → Lies f 0 is → (js : List ℕ) × Lies f i js × (length is ≡ n + length js)

pub passed_none : (f : List ℕ) → RecordsBefore f 0 0
passed_none f is p = (is, p, omega arith)

pub passed_more : (f : List ℕ) (n i : ℕ) → i < length f → RecordsBefore f n i → RecordsBefore f (n + 1) (end_of f i)
passed_more f n i h passed is p =
    let (js, q, e) = passed is p in
    let (ks, r, s) = lies_more f i js h q in
    (ks, r, omega (arith, e, ap length s))

pub passed_all : (f : List ℕ) (n i : ℕ) → length f ≤ i → RecordsBefore f n i → (is : List ℕ) → Lies f 0 is → n ≡ length is
passed_all f n i h passed is p =
    let (js, q, e) = passed is p in
    omega (arith, e, ap length (lies_end f i js h q))
