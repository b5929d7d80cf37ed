-- The settings of the code, as the grammar has them.
use Rattle.pt_grammar.specs.SuiteGrammar.{Runs_of, Shrink_of, Steps_of}
use Rattle.pt_grammar.specs.SuiteGrammar as grammar
use Rattle.pt_read_items.specs.declared.settings.Allowed.{Allowed}
use Rattle.pt_read_items.specs.declared.settings.Setting.{Setting}
use Rattle.pt_read_items.specs.declared.settings.Setting.TheVariants as setting

abbrev pub plain_setting : Setting → grammar.Setting
plain_setting (setting.Runs n) = Runs_of n
plain_setting (setting.Shrink n) = Shrink_of n
plain_setting (setting.Steps n) = Steps_of n

abbrev pub plain_allowed : Allowed → grammar.Allowed
plain_allowed allowed = record { runs = allowed.runs; shrink = allowed.shrink; steps = allowed.steps }
