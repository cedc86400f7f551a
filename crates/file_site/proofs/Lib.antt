mod Goings
