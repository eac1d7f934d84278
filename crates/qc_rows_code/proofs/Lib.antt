mod Nones
