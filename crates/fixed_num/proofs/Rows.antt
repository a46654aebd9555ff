-- Worked rows, computed from the definitions alone.
use Rattle.std.proofs.Common.{◌≡◌, pos, negsuc, [], ◌∷◌, Ok, Err, refl}
use Rattle.std.specs.Prelude.{codes}
use Rattle.std.specs.Fmt.{digits}
use Rattle.fixed_num.specs.Text.{number_of, spelled}
use Rattle.fixed_num.specs.declared.read.FxFault.TheVariants.{Empty, BadByte, TooManyDecimals, TooLarge}

no_bytes : number_of (codes "") ≡ Err Empty
unfolding number_of
no_bytes = refl

a_sign_alone : number_of (codes "-") ≡ Err (BadByte 1)
unfolding number_of
a_sign_alone = refl

two_signs : number_of (codes "--1") ≡ Err (BadByte 1)
unfolding number_of
two_signs = refl

a_plus : number_of (codes "+5") ≡ Err (BadByte 0)
unfolding number_of
a_plus = refl

a_blank_before : number_of (codes " 1") ≡ Err (BadByte 0)
unfolding number_of
a_blank_before = refl

a_blank_behind : number_of (codes "1 ") ≡ Err (BadByte 1)
unfolding number_of
a_blank_behind = refl

no_whole_part : number_of (codes ".5") ≡ Err (BadByte 0)
unfolding number_of
no_whole_part = refl

a_sign_and_no_whole_part : number_of (codes "-.5") ≡ Err (BadByte 1)
unfolding number_of
a_sign_and_no_whole_part = refl

no_decimals : number_of (codes "5.") ≡ Err (BadByte 2)
unfolding number_of
no_decimals = refl

two_points : number_of (codes "1..2") ≡ Err (BadByte 2)
unfolding number_of
two_points = refl

a_second_point : number_of (codes "1.5.") ≡ Err (BadByte 3)
unfolding number_of
a_second_point = refl

an_exponent : number_of (codes "1e3") ≡ Err (BadByte 1)
unfolding number_of
an_exponent = refl

leading_zeros : number_of (codes "007") ≡ Ok (pos 7000000)
unfolding number_of
leading_zeros = refl

minus_nothing : number_of (codes "-0") ≡ Ok (pos 0)
unfolding number_of
minus_nothing = refl

minus_nothing_with_a_decimal : number_of (codes "-0.0") ≡ Ok (pos 0)
unfolding number_of
minus_nothing_with_a_decimal = refl

minus_a_half : number_of (codes "-0.5") ≡ Ok (negsuc 499999)
unfolding number_of
minus_a_half = refl

one_micro : number_of (codes "0.000001") ≡ Ok (pos 1)
unfolding number_of
one_micro = refl

minus_one_micro : number_of (codes "-0.000001") ≡ Ok (negsuc 0)
unfolding number_of
minus_one_micro = refl

one_and_a_quarter : number_of (codes "1.25") ≡ Ok (pos 1250000)
unfolding number_of
one_and_a_quarter = refl

the_largest : number_of (codes "1000000000") ≡ Ok (pos 1000000000000000)
unfolding number_of
the_largest = refl

the_smallest : number_of (codes "-1000000000") ≡ Ok (negsuc 999999999999999)
unfolding number_of
the_smallest = refl

the_largest_with_decimals : number_of (codes "1000000000.000000") ≡ Ok (pos 1000000000000000)
unfolding number_of
the_largest_with_decimals = refl

one_micro_above : number_of (codes "1000000000.000001") ≡ Err TooLarge
unfolding number_of
one_micro_above = refl

one_micro_below : number_of (codes "-1000000000.000001") ≡ Err TooLarge
unfolding number_of
one_micro_below = refl

one_unit_above : number_of (codes "1000000001") ≡ Err TooLarge
unfolding number_of
one_unit_above = refl

seven_decimals : number_of (codes "1.0000000") ≡ Err TooManyDecimals
unfolding number_of
seven_decimals = refl

seven_decimals_before_the_range : number_of (codes "1000000000.0000001") ≡ Err TooManyDecimals
unfolding number_of
seven_decimals_before_the_range = refl

a_bad_byte_before_seven_decimals : number_of (codes "1.0000000x") ≡ Err (BadByte 9)
unfolding number_of
a_bad_byte_before_seven_decimals = refl

a_bad_byte_before_the_range : number_of (codes "99999999999x") ≡ Err (BadByte 11)
unfolding number_of
a_bad_byte_before_the_range = refl

thirty_nine_nines : number_of (codes "999999999999999999999999999999999999999") ≡ Err TooLarge
unfolding number_of
thirty_nine_nines = refl

forty_zeros : number_of (codes "00000000000000000000000000000000000000007") ≡ Ok (pos 7000000)
unfolding number_of
forty_zeros = refl

no_text_at_all : number_of (255 ∷ []) ≡ Err (BadByte 0)
unfolding number_of
no_text_at_all = refl

nothing : spelled (pos 0) ≡ codes "0.000000"
unfolding spelled digits
nothing = refl

one_micro_spelled : spelled (pos 1) ≡ codes "0.000001"
unfolding spelled digits
one_micro_spelled = refl

minus_one_micro_spelled : spelled (negsuc 0) ≡ codes "-0.000001"
unfolding spelled digits
minus_one_micro_spelled = refl

minus_a_half_spelled : spelled (negsuc 499999) ≡ codes "-0.500000"
unfolding spelled digits
minus_a_half_spelled = refl

one_unit : spelled (pos 1000000) ≡ codes "1.000000"
unfolding spelled digits
one_unit = refl

minus_twelve_and_some : spelled (negsuc 12034000) ≡ codes "-12.034001"
unfolding spelled digits
minus_twelve_and_some = refl

just_below_the_largest : spelled (pos 999999999999999) ≡ codes "999999999.999999"
unfolding spelled digits
just_below_the_largest = refl

the_largest_spelled : spelled (pos 1000000000000000) ≡ codes "1000000000.000000"
unfolding spelled digits
the_largest_spelled = refl

the_smallest_spelled : spelled (negsuc 999999999999999) ≡ codes "-1000000000.000000"
unfolding spelled digits
the_smallest_spelled = refl
