use Rattle.std.proofs.Common.{◌+◌, ◌*◌, ◌∷◌, [], length, map}
use Rattle.pt_ast.specs.Plain.{plain_expr, plain_tail, plain_post}
use Rattle.pt_grammar.specs.Tokens.{sum_of, product_of}
use Rattle.pt_grammar.specs.Reading.{is_comma, is_or, is_and, less_room}
use Rattle.pt_grammar.specs.ExprReading.{inner, alone, and_at, nots_at, product_at, unary_at, post_part_at, joined_at, tail_at, more_expr_at, begins_post, is_sum, is_product}
use Rattle.pt_taking.proofs.Rows.{Row}
use Rattle.pt_read_exprs.proofs.exprs.+exprs.Given as goal

abbrev pub decreases-read_expr : goal.decreases-read_expr
decreases-read_expr l = 32 * l.left + 28

abbrev pub decreases-read_if : goal.decreases-read_if
decreases-read_if l = 32 * l.left + 27

abbrev pub decreases-read_or : goal.decreases-read_or
decreases-read_or l = 32 * l.left + 27

abbrev pub decreases-read_ors : goal.decreases-read_ors
decreases-read_ors l = 32 * l.left + 26

abbrev pub decreases-read_and : goal.decreases-read_and
decreases-read_and l = 32 * l.left + 25

abbrev pub decreases-read_ands : goal.decreases-read_ands
decreases-read_ands l = 32 * l.left + 24

abbrev pub decreases-read_not : goal.decreases-read_not
decreases-read_not l = 32 * l.left + 23

abbrev pub decreases-read_compare : goal.decreases-read_compare
decreases-read_compare l = 32 * l.left + 22

abbrev pub decreases-read_sum : goal.decreases-read_sum
decreases-read_sum l = 32 * l.left + 21

abbrev pub decreases-read_sums : goal.decreases-read_sums
decreases-read_sums l = 32 * l.left + 20

abbrev pub decreases-read_product : goal.decreases-read_product
decreases-read_product l = 32 * l.left + 19

abbrev pub decreases-read_products : goal.decreases-read_products
decreases-read_products l = 32 * l.left + 18

abbrev pub decreases-read_unary : goal.decreases-read_unary
decreases-read_unary l = 32 * l.left + 17

abbrev pub decreases-read_post : goal.decreases-read_post
decreases-read_post l = 32 * l.left + 16

abbrev pub decreases-read_posts : goal.decreases-read_posts
decreases-read_posts l = 32 * l.left + 15

abbrev pub decreases-read_post_part : goal.decreases-read_post_part
decreases-read_post_part l = 32 * l.left + 14

abbrev pub decreases-read_index : goal.decreases-read_index
decreases-read_index l = 32 * l.left + 13

abbrev pub decreases-read_atom : goal.decreases-read_atom
decreases-read_atom l = 32 * l.left + 13

abbrev pub decreases-read_call : goal.decreases-read_call
decreases-read_call l = 32 * l.left + 12

abbrev pub decreases-read_bind : goal.decreases-read_bind
decreases-read_bind l = 32 * l.left + 12

abbrev pub decreases-read_round : goal.decreases-read_round
decreases-read_round l = 32 * l.left + 12

abbrev pub decreases-read_square : goal.decreases-read_square
decreases-read_square l = 32 * l.left + 12

abbrev pub decreases-read_args : goal.decreases-read_args
decreases-read_args l = 32 * l.left + 11

abbrev pub decreases-read_members : goal.decreases-read_members
decreases-read_members l = 32 * l.left + 11

abbrev pub decreases-read_member : goal.decreases-read_member
decreases-read_member l = 32 * l.left + 10

abbrev pub decreases-refuse : goal.decreases-refuse
decreases-refuse l = 32 * l.left + 9

abbrev pub decreases-inner_expr : goal.decreases-inner_expr
decreases-inner_expr l = 32 * l.left + 8

abbrev pub decreases-inner_not : goal.decreases-inner_not
decreases-inner_not l = 32 * l.left + 8

abbrev pub decreases-inner_unary : goal.decreases-inner_unary
decreases-inner_unary l = 32 * l.left + 8

abbrev pub decreases-read_ors-loop-behind : goal.decreases-read_ors-loop-behind
decreases-read_ors-loop-behind l = length l.rest

abbrev pub decreases-read_ands-loop-behind : goal.decreases-read_ands-loop-behind
decreases-read_ands-loop-behind l = length l.rest

abbrev pub decreases-read_sums-loop-at : goal.decreases-read_sums-loop-at
decreases-read_sums-loop-at l = length l.rest

abbrev pub decreases-read_products-loop-at : goal.decreases-read_products-loop-at
decreases-read_products-loop-at l = length l.rest

abbrev pub decreases-read_posts-loop-alloc : goal.decreases-read_posts-loop-alloc
decreases-read_posts-loop-alloc l = length l.rest

abbrev pub decreases-read_args-loop-behind : goal.decreases-read_args-loop-behind
decreases-read_args-loop-behind l = length l.rest

abbrev pub decreases-read_members-loop-behind : goal.decreases-read_members-loop-behind
decreases-read_members-loop-behind l = length l.rest

abbrev pub invariant-read_ors-loop-behind : goal.invariant-read_ors-loop-behind
invariant-read_ors-loop-behind l = Row (λ given. joined_at is_or (and_at l.left (inner l.left))) (λ given. is_or) alone (plain_expr l.fn.first ∷ []) tt l.tokens (map plain_expr l.parts) tt l.rest

abbrev pub invariant-read_ands-loop-behind : goal.invariant-read_ands-loop-behind
invariant-read_ands-loop-behind l = Row (λ given. joined_at is_and (nots_at l.left (inner l.left))) (λ given. is_and) alone (plain_expr l.fn.first ∷ []) tt l.tokens (map plain_expr l.parts) tt l.rest

abbrev pub invariant-read_sums-loop-at : goal.invariant-read_sums-loop-at
invariant-read_sums-loop-at l = Row (λ given. tail_at sum_of (product_at l.left (inner l.left))) (λ given. is_sum) alone [] tt l.tokens (map plain_tail l.tails) tt l.rest

abbrev pub invariant-read_products-loop-at : goal.invariant-read_products-loop-at
invariant-read_products-loop-at l = Row (λ given. tail_at product_of (unary_at l.left (inner l.left))) (λ given. is_product) alone [] tt l.tokens (map plain_tail l.tails) tt l.rest

abbrev pub invariant-read_posts-loop-alloc : goal.invariant-read_posts-loop-alloc
invariant-read_posts-loop-alloc l = Row (λ given. post_part_at l.left (inner l.left)) (λ given. begins_post) alone [] tt l.tokens (map plain_post l.posts) tt l.rest

abbrev pub invariant-read_args-loop-behind : goal.invariant-read_args-loop-behind
invariant-read_args-loop-behind l = Row (λ given. joined_at is_comma (inner l.left).expr) (λ given. is_comma) alone (plain_expr l.fn.first ∷ []) tt l.tokens (map plain_expr l.args) tt l.rest

abbrev pub invariant-read_members-loop-behind : goal.invariant-read_members-loop-behind
invariant-read_members-loop-behind l = Row (more_expr_at (inner l.left).expr) (λ room. is_comma) less_room (plain_expr l.fn.first ∷ []) l.most l.tokens (map plain_expr l.members) l.room l.rest
