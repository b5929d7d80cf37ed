use Rattle.std.proofs.Common.{ap, refl, ◌∙◌}
use Rattle.pt_ast.specs.Types.{Text_type, Bytes_type}
use Rattle.pt_types.specs.Kept.{tree_of, trees_of}
use Rattle.pt_check.specs.Known.{top}
use Rattle.pt_check.proofs.Views.{shaped-is, sequence-says}
use Rattle.pt_check.proofs.checker.Checker.be_sequence.Goals as goal

pub returns-in-Text : goal.returns-in-Text
returns-in-Text c =
    let i = c.self.inside in
    let found = shaped-is i c.args.self.now c.self.view_is c.newest.result c.shape.result c.self.invariant.from_base c.newest.ensures c.shape.ensures.shape in
    sequence-says c.args.at (top c.args.self.now) Text_type (found ∙ ap (tree_of (trees_of i.types)) c.in-Text.is) refl

pub returns-in-Bytes : goal.returns-in-Bytes
returns-in-Bytes c =
    let i = c.self.inside in
    let found = shaped-is i c.args.self.now c.self.view_is c.newest.result c.shape.result c.self.invariant.from_base c.newest.ensures c.shape.ensures.shape in
    sequence-says c.args.at (top c.args.self.now) Bytes_type (found ∙ ap (tree_of (trees_of i.types)) c.in-Bytes.is) refl

pub returns-in-List : goal.returns-in-List
returns-in-List c =
    let i = c.self.inside in
    let found = shaped-is i c.args.self.now c.self.view_is c.newest.result c.shape.result c.self.invariant.from_base c.newest.ensures c.shape.ensures.shape in
    sequence-says c.args.at (top c.args.self.now) _ (found ∙ ap (tree_of (trees_of i.types)) c.in-List.is) refl
