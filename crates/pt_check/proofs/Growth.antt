-- Types that are kept stay what they are where more are kept.
use Rattle.std.proofs.Common.{◌≡◌, ℕ, zero, suc, ◌+◌, ◌<◌, ◌≤◌, Option, Some, None, List, [], ◌∷◌, ◌++◌, length, refl, sym, ◌∙◌, ap, append_assoc, arith}
use Rattle.std.specs.Prelude.{option_map}
use Rattle.std.specs.Option.{option_to_list}
use Rattle.std.proofs.lemmas.List.{append-nil, length-append}
use Rattle.pt_ast.specs.Types.{TypeTree}
use Rattle.pt_ast.specs.Names.{Scope}
use Rattle.pt_types.specs.declared.shape.Shape.{Shape}
use Rattle.pt_types.specs.Kept.{type_at, tree_of, grown, trees_of, type_of, Grows, base_shapes}
use Rattle.pt_check.specs.Known.{Known}
use Rattle.pt_check.specs.Numbers.{Table, scope_of, types_at, AreNumbers, AreNumbered, known_of, AreKnown}

grown-append : (trees : List TypeTree) (first second : List Shape) → grown trees (first ++ second) ≡ grown (grown trees first) second
grown-append trees [] second = refl
grown-append trees (one ∷ first) second = grown-append (trees ++ tree_of trees one ∷ []) first second

-- what grows begins as it was
begins : (trees : List TypeTree) (shapes : List Shape) → (more : List TypeTree) × (grown trees shapes ≡ trees ++ more)
begins trees [] = ([], sym (append-nil trees))
begins trees (first ∷ others) =
    let rest = begins (trees ++ tree_of trees first ∷ []) others in
    (tree_of trees first ∷ rest.0, rest.1 ∙ append_assoc trees (tree_of trees first ∷ []) rest.0)

grown-long : (trees : List TypeTree) (shapes : List Shape) → length (grown trees shapes) ≡ length trees + length shapes
grown-long trees [] = omega arith
grown-long trees (first ∷ others) =
    let so : length (grown (trees ++ tree_of trees first ∷ []) others) ≡ length (trees ++ tree_of trees first ∷ []) + length others = grown-long (trees ++ tree_of trees first ∷ []) others in
    let one : length (trees ++ tree_of trees first ∷ []) ≡ length trees + 1 = length-append trees (tree_of trees first ∷ []) in
    omega (arith, so, one)

pub trees-long : (shapes : List Shape) → length (trees_of shapes) ≡ length shapes
trees-long shapes = let so : length (trees_of shapes) ≡ 0 + length shapes = grown-long [] shapes in omega (arith, so)

at-front : (first second : List TypeTree) (place : ℕ) → place < length first → type_at (first ++ second) place ≡ type_at first place
at-front [] second place within = absurd (omega (arith, within))
at-front (one ∷ first) second zero within = refl
at-front (one ∷ first) second (suc place) within = at-front first second place (omega (arith, within))

-- the type of a number
pub stays : (old new : List Shape) (number : ℕ) → Grows old new → number < length old → type_of new number ≡ type_of old number
stays old new number grows within =
    let rest = begins (trees_of old) grows.0 in
    let long : length (trees_of old) ≡ length old = trees-long old in
    ap (λ shapes. type_of shapes number) grows.1 ∙ ap (λ trees. type_at trees number) (grown-append [] old grows.0 ∙ rest.1)
    ∙ at-front (trees_of old) rest.0 number (omega (arith, within, long))

pub longer : (old new : List Shape) → Grows old new → length old ≤ length new
longer old new grows = let so : length new ≡ length old + length grows.0 = ap length grows.1 ∙ length-append old grows.0 in omega (arith, so)

pub grows-on : (first second third : List Shape) → Grows first second → Grows second third → Grows first third
grows-on first second third one two = (one.0 ++ two.0, two.1 ∙ ap (λ shapes. shapes ++ two.0) one.1 ∙ append_assoc first one.0 two.0)

scope-stays : (old new : List Shape) (names : Table) → Grows old new → AreNumbered old names → scope_of new names ≡ scope_of old names
scope-stays old new [] grows numbered = refl
scope-stays old new (first ∷ others) grows numbered =
    ap (λ type. (first.0, type) ∷ scope_of new others) (stays old new first.1 grows numbered.0)
    ∙ ap (λ scope. (first.0, type_of old first.1) ∷ scope) (scope-stays old new others grows numbered.1)

types-stay : (old new : List Shape) (numbers : List ℕ) → Grows old new → AreNumbers old numbers → types_at new numbers ≡ types_at old numbers
types-stay old new [] grows within = refl
types-stay old new (first ∷ others) grows within =
    ap (λ type. type ∷ types_at new others) (stays old new first grows within.0) ∙ ap (λ types. type_of old first ∷ types) (types-stay old new others grows within.1)

target-stays : (old new : List Shape) (target : Option ℕ) → Grows old new → AreNumbers old (option_to_list target) → option_map (type_of new) target ≡ option_map (type_of old) target
target-stays old new None grows within = refl
target-stays old new (Some number) grows within = ap Some (stays old new number grows within.0)

numbered-stay : (old new : List Shape) (names : Table) → length old ≤ length new → AreNumbered old names → AreNumbered new names
numbered-stay old new [] long numbered = tt
numbered-stay old new (first ∷ others) long numbered = (omega (arith, long, numbered.0), numbered-stay old new others long numbered.1)

pub numbers-stay : (old new : List Shape) (numbers : List ℕ) → length old ≤ length new → AreNumbers old numbers → AreNumbers new numbers
numbers-stay old new [] long within = tt
numbers-stay old new (first ∷ others) long within = (omega (arith, long, within.0), numbers-stay old new others long within.1)

module _ (old new : List Shape) (states bundles : Table) (target : Option ℕ) (scope : Table) (selves held : List ℕ) (grows : Grows old new) (known : AreKnown old states bundles target scope selves held) where
  pub known-stays : known_of new states bundles target scope selves held ≡ known_of old states bundles target scope selves held
  known-stays =
      let P : Scope → Scope → Option TypeTree → Scope → List TypeTree → List TypeTree → Known = λ s b t n e h. record { context = record { states = s; bundles = b; target = t }; scope = n; selves = e; held = h } in
      ap (λ s. P s (scope_of new bundles) (option_map (type_of new) target) (scope_of new scope) (types_at new selves) (types_at new held)) (scope-stays old new states grows known.of_states)
      ∙ ap (λ b. P (scope_of old states) b (option_map (type_of new) target) (scope_of new scope) (types_at new selves) (types_at new held)) (scope-stays old new bundles grows known.of_bundles)
      ∙ ap (λ t. P (scope_of old states) (scope_of old bundles) t (scope_of new scope) (types_at new selves) (types_at new held)) (target-stays old new target grows known.of_target)
      ∙ ap (λ n. P (scope_of old states) (scope_of old bundles) (option_map (type_of old) target) n (types_at new selves) (types_at new held)) (scope-stays old new scope grows known.of_scope)
      ∙ ap (λ e. P (scope_of old states) (scope_of old bundles) (option_map (type_of old) target) (scope_of old scope) e (types_at new held)) (types-stay old new selves grows known.of_selves)
      ∙ ap (λ h. P (scope_of old states) (scope_of old bundles) (option_map (type_of old) target) (scope_of old scope) (types_at old selves) h) (types-stay old new held grows known.of_held)

  pub are-known-stays : AreKnown new states bundles target scope selves held
  are-known-stays =
      let long = longer old new grows in
      record {
        from_base = grows-on base_shapes old new known.from_base grows;
        of_states = numbered-stay old new states long known.of_states;
        of_bundles = numbered-stay old new bundles long known.of_bundles;
        of_target = numbers-stay old new (option_to_list target) long known.of_target;
        of_scope = numbered-stay old new scope long known.of_scope;
        of_selves = numbers-stay old new selves long known.of_selves;
        of_held = numbers-stay old new held long known.of_held;
      }
