-- The types of the language, without where they lie in memory.
use Rattle.std.specs.Prelude.{List, [], ◌∷◌}

mutual
  -- a type
  pub data TypeTree : Type 0 where
    Int_type : TypeTree
    Bool_type : TypeTree
    Text_type : TypeTree
    Bytes_type : TypeTree
    Tree_type : TypeTree
    List_type : TypeTree → TypeTree
    Tuple_type : TypeTrees → TypeTree

  -- types in order
  pub data TypeTrees : Type 0 where
    no_type : TypeTrees
    more_type : TypeTree → TypeTrees → TypeTrees

abbrev pub types_of : List TypeTree → TypeTrees
types_of [] = no_type
types_of (first ∷ others) = more_type first (types_of others)

abbrev pub types_in : TypeTrees → List TypeTree
types_in no_type = []
types_in (more_type first others) = first ∷ types_in others
