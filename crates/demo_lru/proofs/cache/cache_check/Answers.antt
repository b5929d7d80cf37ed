use Rattle.std.proofs.Common.{◌∙◌, ap}
use Rattle.demo_lru.proofs.ChecksLemmas.{as-many, check-says, command-is, commands-is}
use Rattle.demo_lru.proofs.cache.cache_check.Goals as goal

pub returns-in-Ok : goal.returns-in-Ok
returns-in-Ok c =
    let list = c.of-in-Ok-6.ensures.inner in
    let commands = ap (λ l. l.inner) list ∙ c.of-in-Ok-5.ensures.inner in
    let sort = ap (λ p. p.a) commands ∙ c.of-commands.ensures.a in
    let rest = ap (λ p. p.b) commands ∙ c.of-commands.ensures.b in
    let key = ap (λ p. p.a) rest ∙ c.of-in-Ok-4.ensures.a in
    let value = ap (λ p. p.b) rest ∙ c.of-in-Ok-4.ensures.b in
    check-says (as-many (ap (λ l. l.min) list ∙ c.of-in-Ok-5.ensures.min) (ap (λ l. l.max) list ∙ c.of-in-Ok-5.ensures.max))
    (commands-is _ c.of-in-Ok-6.result.inner.min c.of-in-Ok-6.result.inner.max (c.of-in-Ok-6.ensures.name ∙ c.in-Ok.ensures.name)
    (command-is (ap (λ i. i.lo) sort ∙ c.of-in-Ok.ensures.lo) (ap (λ i. i.hi) sort ∙ c.of-in-Ok.ensures.hi) (ap (λ i. i.lo) key ∙ c.of-in-Ok-2.ensures.lo)
    (ap (λ i. i.hi) key ∙ c.of-in-Ok-2.ensures.hi) (ap (λ i. i.lo) value ∙ c.of-in-Ok-3.ensures.lo) (ap (λ i. i.hi) value ∙ c.of-in-Ok-3.ensures.hi)))
