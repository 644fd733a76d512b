-- The bytes of a node, put together piece by piece from the front.
use Rattle.std.proofs.Common.{◌≡◌, ℕ, ◌-◌, ◌*◌, List, [], ◌∷◌, ◌++◌, length, replicate, ap, ap₂, ◌∙◌}
use Rattle.byteorder.specs.Endian.{little_bytes}
use Rattle.base_types.specs.declared.layout.Layout.{Layout}
use Rattle.base_types.specs.declared.places.Run.{Run}
use Rattle.layout_node.proofs.Fields.{behind}
use Rattle.layout_bytes.specs.declared.node.Node.{Node}
use Rattle.layout_bytes.specs.Node.{kind_byte, node_size, run_bytes, node_spelling}

pieces : (t2 t3 t4 t5 t6 t7 p1 p2 p3 p4 p5 p6 p7 : List ℕ) → t2 ≡ p1 ++ p2 → t3 ≡ t2 ++ p3 → t4 ≡ t3 ++ p4 → t5 ≡ t4 ++ p5 → t6 ≡ t5 ++ p6 → t7 ≡ t6 ++ p7
    → t7 ≡ p1 ++ (p2 ++ (p3 ++ (p4 ++ (p5 ++ (p6 ++ p7)))))
pieces t2 t3 t4 t5 t6 t7 p1 p2 p3 p4 p5 p6 p7 e2 e3 e4 e5 e6 e7 =
    e7 ∙ behind t5 t6 p6 p7 e6 ∙ behind t4 t5 p5 (p6 ++ p7) e5 ∙ behind t3 t4 p4 (p5 ++ (p6 ++ p7)) e4 ∙ behind t2 t3 p3 (p4 ++ (p5 ++ (p6 ++ p7))) e3
    ∙ behind p1 t2 p2 (p3 ++ (p4 ++ (p5 ++ (p6 ++ p7)))) e2

-- a node's pieces one behind the other are its spelling
pub written : (l : Layout) (n : Node) (kind rest : ℕ) (rs : List Run) (t1 t2 t3 t4 t5 t6 t7 : List ℕ) → rest ≡ node_size l - 32 - 8 * length rs → kind ≡ kind_byte n.kind → rs ≡ n.runs → t1 ≡ kind ∷ 0 ∷ []
    → t2 ≡ t1 ++ little_bytes 2 (length rs) → t3 ≡ t2 ++ little_bytes 4 n.links → t4 ≡ t3 ++ little_bytes 8 n.size → t5 ≡ t4 ++ replicate 16 0
    → t6 ≡ t5 ++ run_bytes rs → t7 ≡ t6 ++ replicate rest 0 → t7 ≡ node_spelling l n
written l n kind rest rs t1 t2 t3 t4 t5 t6 t7 z k r e1 e2 e3 e4 e5 e6 e7 =
    pieces t2 t3 t4 t5 t6 t7 (kind ∷ 0 ∷ []) (little_bytes 2 (length rs)) (little_bytes 4 n.links) (little_bytes 8 n.size) (replicate 16 0) (run_bytes rs) (replicate (node_size l - 32 - 8 * length rs) 0)
    (e2 ∙ ap (λ t. t ++ little_bytes 2 (length rs)) e1) e3 e4 e5 e6 (e7 ∙ ap (λ m. t6 ++ replicate m 0) z)
    ∙ ap₂ (λ (b : ℕ) (xs : List Run). (b ∷ 0 ∷ []) ++ (little_bytes 2 (length xs) ++ (little_bytes 4 n.links ++ (little_bytes 8 n.size ++ (replicate 16 0 ++ (run_bytes xs ++ replicate (node_size l - 32 - 8 * length xs) 0)))))) k r
