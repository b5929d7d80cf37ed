-- What reading each sort of statement comes to, behind its word.
use Rattle.std.specs.Prelude.{ℕ, Ok, List}
use Rattle.pt_val.specs.declared.place.Place.{Place}
use Rattle.pt_ast.specs.Trees.{StmtTree, Let_of, Assume_of, Assert_of, Set_of}
use Rattle.pt_token.specs.declared.token.Token.{Token}
use Rattle.pt_grammar.specs.Reading.{Reading, ◌>>=◌}
use Rattle.pt_grammar.specs.SuiteReading.{assigned_at, ended_at}

abbrev pub let_at : ℕ → Place → List Token → Reading StmtTree
let_at left place tokens = assigned_at left tokens >>= λ x. Ok (Let_of place x.0.0 x.0.1, x.1)

abbrev pub set_at : ℕ → Place → List Token → Reading StmtTree
set_at left place tokens = assigned_at left tokens >>= λ x. Ok (Set_of place x.0.0 x.0.1, x.1)

abbrev pub assume_at : ℕ → Place → List Token → Reading StmtTree
assume_at left place tokens = ended_at left tokens >>= λ x. Ok (Assume_of place x.0, x.1)

abbrev pub assert_at : ℕ → Place → List Token → Reading StmtTree
assert_at left place tokens = ended_at left tokens >>= λ x. Ok (Assert_of place x.0, x.1)
