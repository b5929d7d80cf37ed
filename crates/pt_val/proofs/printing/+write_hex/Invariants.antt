use Rattle.pt_val.proofs.printing.+write_hex.Given as goal

-- a division leaves a lower number
abbrev pub decreases-write_hex : goal.decreases-write_hex
decreases-write_hex l = l.number
