-- The marks and the edges, as they are read from their own bytes.
use Rattle.std.proofs.Common.{◌≡◌, ℕ, zero, suc, ◌+◌, ◌*◌, ◌<◌, List, length, get_or, drop, refl, ap, ◌∙◌, ap₂, arith, get_or-take, get_or-drop}
use Rattle.std.specs.Simd.{first_chunks}
use Rattle.file_bytes.specs.Bytes.{field}
use Rattle.models.specs.Items.{marks_in, edges_in, AreMarks, AreEdges}

length_chunks : (n k : ℕ) (bytes : List ℕ) → length (first_chunks n k bytes) ≡ k
length_chunks n zero bytes = refl
length_chunks n (suc k) bytes = ap (λ j. suc j) (length_chunks n k (drop n bytes))

-- byte j of chunk i
byte_at : (n k : ℕ) (bytes : List ℕ) (i j : ℕ) (d : List ℕ) → i < k → j < n → get_or (get_or (first_chunks n k bytes) i d) j 0 ≡ get_or bytes (n * i + j) 0
byte_at n zero bytes i j d h l = absurd (omega arith)
byte_at n (suc k) bytes zero j d h l = get_or-take n bytes j 0 l ∙ ap (λ p. get_or bytes p 0) (let e : j ≡ n * 0 + j = omega arith in e)
byte_at n (suc k) bytes (suc i) j d h l =
    byte_at n k (drop n bytes) i j d (omega arith) l ∙ get_or-drop n bytes (n * i + j) 0
    ∙ ap (λ p. get_or bytes p 0) (let e : n + (n * i + j) ≡ n * suc i + j = grind arith in e)

-- field j of chunk i, where a chunk has m fields, is field p of all
field_at : (m k : ℕ) (bytes : List ℕ) (i j : ℕ) (d : List ℕ) (p : ℕ) → m * i + j ≡ p → i < k → j < m → field (get_or (first_chunks (2 * m) k bytes) i d) j ≡ field bytes p
field_at m k bytes i j d p q h l = ap₂ (λ a b. a + 256 * b)
    (byte_at (2 * m) k bytes i (2 * j) d h (omega arith) ∙ ap (λ n. get_or bytes n 0) (let e : 2 * m * i + 2 * j ≡ 2 * p = grind arith in e))
    (byte_at (2 * m) k bytes i (2 * j + 1) d h (omega arith) ∙ ap (λ n. get_or bytes n 0) (let e : 2 * m * i + (2 * j + 1) ≡ 2 * p + 1 = grind arith in e))

pub are_marks : (ms : List ℕ) → AreMarks ms (first_chunks 4 (marks_in ms) ms)
are_marks ms = record {
  many = length_chunks 4 (marks_in ms) ms;
  reads = λ i d h t. record { element = field_at 2 (marks_in ms) ms i 0 d (2 * i) (omega arith) h (omega arith) t; name = field_at 2 (marks_in ms) ms i 1 d _ refl h (omega arith) t };
}

pub are_edges : (es : List ℕ) → AreEdges es (first_chunks 6 (edges_in es) es)
are_edges es = record {
  many = length_chunks 6 (edges_in es) es;
  reads = λ i d h t. record {
    role_name = field_at 3 (edges_in es) es i 0 d (3 * i) (omega arith) h (omega arith) t;
    from = field_at 3 (edges_in es) es i 1 d _ refl h (omega arith) t;
    to = field_at 3 (edges_in es) es i 2 d _ refl h (omega arith) t;
  };
}
