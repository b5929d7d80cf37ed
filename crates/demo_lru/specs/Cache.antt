-- The check `cache`: the library's cache beside a plain list.
use Rattle.std.specs.Prelude.{ℕ, ℤ, pos, true, Option, List, [], codes}
use Rattle.std.specs.Map.{lookup, remove_entry}
use Rattle.std.specs.Ordering.{int_eq}
use Rattle.std.specs.Option.{option_eq}
use Rattle.pt_choice.specs.declared.choice.Choice.{Choice}
use Rattle.pt_val.specs.declared.val.Val.{Val}
use Rattle.pt_case.specs.declared.ending.Ending.{Ending}
use Rattle.pt_case.specs.Step.{Answer}
use Rattle.pt_plan.specs.Says.{plan_says}
use Rattle.pt_typed.specs.Plans.{ints_plan, pair_plan, list_plan}
use Rattle.pt_typed.specs.Property.{property_plan}
use Rattle.pt_typed.specs.Reading.{members_of}
use Rattle.pt_against.specs.Compared.{Pairing, verdict_on}
use Rattle.lru.specs.LruCache.{LruCache, lru_cache, promoted, put_entries}
use Rattle.demo_lru.specs.declared.command.Command.{Command}
use Rattle.demo_lru.specs.declared.command.Command.TheVariants.{Put, Get, Remove}
use Rattle.demo_lru.specs.Command.{command_of}
use Rattle.demo_lru.specs.Listed.{by_list}

-- what the library's cache answers, and is afterwards, by its own words
abbrev pub by_cache : LruCache ℤ ℤ → Command → Option ℤ × LruCache ℤ ℤ
by_cache cache (Put key value) = (lookup (int_eq key) cache.entries, lru_cache (put_entries int_eq cache key value) cache.cap)
by_cache cache (Get key) = (lookup (int_eq key) cache.entries, lru_cache (promoted (int_eq key) cache.entries) cache.cap)
by_cache cache (Remove key) = (lookup (int_eq key) cache.entries, lru_cache (remove_entry (int_eq key) cache.entries) cache.cap)

-- the point of a command: one for each sort
abbrev pub point_of : Command → ℕ
point_of (Put key value) = 1
point_of (Get key) = 2
point_of (Remove key) = 3

-- both begin empty, with room for two pairs, and each command may be given at any time
abbrev pub cache_pairing : Pairing (LruCache ℤ ℤ) (List (ℤ × ℤ)) (Option ℤ)
cache_pairing = record {
  thing = lru_cache [] 2;
  model = [];
  allows = λ pairs shown. true;
  by_thing = λ cache shown. by_cache cache (command_of shown);
  by_model = λ pairs shown. by_list pairs (command_of shown);
  point = λ shown. point_of (command_of shown);
}

abbrev pub cache_name : List ℕ
cache_name = codes "cache"

-- what commands come to on both: they are answered alike, or fail at the point of the first that is not
abbrev pub answered_alike : Val → Ending
answered_alike commands = verdict_on cache_pairing (option_eq int_eq) (members_of commands)

-- so many commands: a sort, one of three keys and one of ten values; the cache and the list answer them alike
unfoldable pub commands_say : ℕ → ℕ → List Choice → Answer → Type 0
commands_say least most = plan_says (property_plan
    (list_plan (pair_plan (ints_plan (pos 0) (pos 2)) (pair_plan (ints_plan (pos 0) (pos 2)) (ints_plan (pos 0) (pos 9)))) least most)
    answered_alike)

abbrev pub cache_says : List Choice → Answer → Type 0
cache_says = commands_say 8 40
