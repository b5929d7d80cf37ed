use Rattle.std.proofs.Common.{◌≡◌, ◌-◌, ◌/◌, ◌%◌, ◌^◌, ◌<◌, false, [], ◌∷◌, ◌++◌, Some, get_or, string_bytes, refl, ap, subst, ◌∙◌, append_assoc, arith}
use Rattle.std.specs.Option.{option_map}
use Rattle.std.specs.Fmt.{AppendsText, digit_glyph, format_spec, padded_integral, styled_digits_output}
use Rattle.std.proofs.lemmas.Fmt.{hex_byte}
use Rattle.std.proofs.lemmas.List.{take_more}
use Rattle.pt_wire.specs.Printed.{PrintedByte}
use Rattle.pt_wire.proofs.Chains.{chained_more}
use Rattle.pt_wire.proofs.printing.print_bytes.Goals as goal

pub loop-byte-preserved : goal.loop-byte-preserved
loop-byte-preserved c =
    let i = c.loop-byte.invariant in
    let bytes = c.args.bytes.now in
    let byte = get_or bytes c.loop-byte.byte-index 0 in
    let small : byte < 256 = omega (arith, c.type_inv.bytes c.loop-byte.byte-index) in
    let text = digit_glyph false (byte / 16) ∷ digit_glyph false (byte % 16) ∷ [] in
    let spec = format_spec 32 0 4 2 (2 ^ 64 - 1) in
    let shown : styled_digits_output c.in_radix.result c.laid_out.result ≡ Some text =
    ap (λ s. styled_digits_output c.in_radix.result s) c.laid_out.ensures ∙ ap (option_map (padded_integral spec false [])) c.in_radix.ensures ∙ ap (λ t. Some t) (hex_byte false byte small) in
    let added : string_bytes c.write.new.self ≡ string_bytes c.loop-byte.out ++ text = subst (AppendsText (string_bytes c.loop-byte.out) (string_bytes c.write.new.self)) shown c.in_ok-write.ensures.bytes in
    rw (take_more bytes c.loop-byte.byte-index 0 (omega arith))
    (i.0 ++ text, chained_more PrintedByte _ byte i.0 text i.1 (refl, small), added ∙ ap (λ t. t ++ text) i.2 ∙ append_assoc _ i.0 text)
