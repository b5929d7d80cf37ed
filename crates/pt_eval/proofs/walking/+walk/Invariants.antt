use Rattle.std.proofs.Common.{◌≡◌, ℕ, ◌+◌, ◌++◌, Ok, length, take, drop}
use Rattle.std.specs.Prelude.{if◌then◌else◌}
use Rattle.pt_ast.specs.Plain.{plain_expr, plain_exprs, plain_tails, plain_posts}
use Rattle.pt_eval.specs.Seen.{seen}
use Rattle.pt_eval.specs.Steps.{after, each_gives, each_costs, seek_gives, seek_costs}
use Rattle.pt_eval.specs.Value.{value_of, values_of, sought_value, chain_value, posts_value, begun, cost_of, costs_of, sought_cost, chain_cost, posts_cost}
use Rattle.pt_eval.proofs.walking.+walk.Given as goal

-- so much was spent, and the values of the expressions that are left come behind these
abbrev pub invariant-walk_all-loop-part : goal.invariant-walk_all-loop-part
invariant-walk_all-loop-part l =
    (spent : ℕ) × (l.fn.left ≡ l.left + spent) × (l.locals ≡ l.fn.locals)
    × (values_of (plain_exprs l.parts) (l.env ++ l.fn.locals) ≡ after (values_of (plain_exprs (drop l.part-index l.parts)) (l.env ++ l.fn.locals)) (λ rest. Ok (l.values ++ rest)))
    × (costs_of (plain_exprs l.parts) (l.env ++ l.fn.locals) ≡ spent + costs_of (plain_exprs (drop l.part-index l.parts)) (l.env ++ l.fn.locals))

-- so much was spent, and what is sought is still sought in the parts that are left
abbrev pub invariant-seek_part-loop-part : goal.invariant-seek_part-loop-part
invariant-seek_part-loop-part l =
    (spent : ℕ) × (l.fn.left ≡ l.left + spent) × (l.locals ≡ l.fn.locals)
    × (sought_value l.sought (plain_exprs l.parts) (l.env ++ l.fn.locals) ≡ sought_value l.sought (plain_exprs (drop l.part-index l.parts)) (l.env ++ l.fn.locals))
    × (sought_cost l.sought (plain_exprs l.parts) (l.env ++ l.fn.locals)
    ≡ spent + (if l.is_right then begun (plain_exprs (drop l.part-index l.parts)) else 0) + sought_cost l.sought (plain_exprs (drop l.part-index l.parts)) (l.env ++ l.fn.locals))

-- so much was spent, and the rest of the chain is still to come
abbrev pub invariant-walk_tails-loop-tail : goal.invariant-walk_tails-loop-tail
invariant-walk_tails-loop-tail l =
    (spent : ℕ) × (l.fn.left ≡ l.left + spent) × (l.locals ≡ l.fn.locals)
    × (chain_value (plain_tails l.tails) (l.env ++ l.fn.locals) l.fn.first ≡ chain_value (plain_tails (drop l.tail-index l.tails)) (l.env ++ l.fn.locals) l.so_far)
    × (chain_cost (plain_tails l.tails) (l.env ++ l.fn.locals) l.fn.first ≡ spent + chain_cost (plain_tails (drop l.tail-index l.tails)) (l.env ++ l.fn.locals) l.so_far)

abbrev pub invariant-see_posts-loop-post : goal.invariant-see_posts-loop-post
invariant-see_posts-loop-post l =
    (spent : ℕ) × (l.fn.left ≡ l.left + spent) × (l.locals ≡ l.fn.locals)
    × (posts_value (plain_posts l.posts) (l.env ++ l.fn.locals) (seen l.fn.base) ≡ posts_value (plain_posts (drop l.post-index l.posts)) (l.env ++ l.fn.locals) (seen l.so_far))
    × (posts_cost (plain_posts l.posts) (l.env ++ l.fn.locals) (seen l.fn.base) ≡ spent + posts_cost (plain_posts (drop l.post-index l.posts)) (l.env ++ l.fn.locals) (seen l.so_far))

-- so much was spent, and the values of the members that are left come behind these
abbrev pub invariant-walk_each-loop-member : goal.invariant-walk_each-loop-member
invariant-walk_each-loop-member l =
    (spent : ℕ) × (l.fn.left ≡ l.left + spent) × (l.outer ≡ length l.fn.locals) × (take l.outer l.locals ≡ l.fn.locals)
    × (each_gives (value_of (plain_expr l.body)) l.name (l.env ++ l.fn.locals) l.fn.members
    ≡ after (each_gives (value_of (plain_expr l.body)) l.name (l.env ++ l.fn.locals) (drop (length l.yielded) l.fn.members)) (λ rest. Ok (l.values ++ rest)))
    × (each_costs (value_of (plain_expr l.body)) (cost_of (plain_expr l.body)) l.name (l.env ++ l.fn.locals) l.fn.members
    ≡ spent + each_costs (value_of (plain_expr l.body)) (cost_of (plain_expr l.body)) l.name (l.env ++ l.fn.locals) (drop (length l.yielded) l.fn.members))

-- so much was spent, and what is sought is still sought at the members that are left
abbrev pub invariant-seek_member-loop-member : goal.invariant-seek_member-loop-member
invariant-seek_member-loop-member l =
    (spent : ℕ) × (l.fn.left ≡ l.left + spent) × (l.outer ≡ length l.fn.locals) × (take l.outer l.locals ≡ l.fn.locals)
    × (seek_gives l.sought (value_of (plain_expr l.body)) l.name (l.env ++ l.fn.locals) l.fn.members
    ≡ seek_gives l.sought (value_of (plain_expr l.body)) l.name (l.env ++ l.fn.locals) (drop (length l.yielded) l.fn.members))
    × (seek_costs l.sought (value_of (plain_expr l.body)) (cost_of (plain_expr l.body)) l.name (l.env ++ l.fn.locals) l.fn.members
    ≡ spent + seek_costs l.sought (value_of (plain_expr l.body)) (cost_of (plain_expr l.body)) l.name (l.env ++ l.fn.locals) (drop (length l.yielded) l.fn.members))
